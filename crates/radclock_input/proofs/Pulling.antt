-- While an input is pulled.
use Rattle.std.proofs.Common.{◌≡◌, ℕ, ◌+◌, ◌-◌, ◌^◌, ◌<◌, ◌≤◌, Bool, true, false, cond, ltb, List, [], ◌++◌, length, take, Option, None, Some, Result, Ok, Err, refl, sym, ap, ◌∙◌, subst, arith, append-nil, length-append, length-take}
use Rattle.std.proofs.lemmas.Bool.Decides.{nat_tests}
use Rattle.std.proofs.lemmas.List.{take-append-le, take_all}
use Rattle.std.proofs.Math.Seq.{take-append-add}
use Rattle.rad_io.specs.Pulls.{Pulled, Took}
use Rattle.rad_io.specs.declared.Failed.{Failed}
use Rattle.report_text.specs.declared.lines.Limit.TheVariants as limit
use Rattle.radclock_input.specs.declared.stops.Stop.{Stop}
use Rattle.radclock_input.specs.declared.stops.Stop.TheVariants as stop
use Rattle.radclock_input.specs.Pulled.{PullGives, StopsIn, first_stop, bytes_stop, front_stop, input_stop, StopsBehind, broke_off, at_end, in_piece, out_of_memory, ReadsTo, ReadsAll, ReadsUpTo, IsTaken, IsInputStop, HasRead}

-- the text that was taken so far, and what the value made of it
pub record Underway {S I R : Type 0} (left : S → Option (List ℕ)) (faults : S → ℕ) (pull : PullGives S) (within : R → StopsIn)
    (reads : R → I → List ℕ → Type 0) (old new : S) (rules : R) (intake : I) (taken : ℕ) : Type 0 where
  pub text : List ℕ
  pub took : Took left faults pull 4096 old text new
  pub bytes : length text ≡ taken
  pub read : HasRead within reads rules intake text

-- a number is at most another, or above it
pub by_order : (P : Type 0) (m n : ℕ) → (m ≤ n → P) → (n < m → P) → P
by_order P m n below above =
    let split : (t : Bool) → ltb n m ≡ t → P = elim [ true ↦ λ e. above (grind (arith, nat_tests)) | false ↦ λ e. below (grind (arith, nat_tests)) ] in
    split (ltb n m) refl

first_stop-none : (a : Option Stop) → first_stop a None ≡ a
first_stop-none None = refl
first_stop-none (Some s) = refl

-- bytes that are all read
pub front_stop-short : (most : ℕ) (within : StopsIn) (text : List ℕ) → length text ≤ most → front_stop most within text ≡ within text
unfolding front_stop
front_stop-short most within text short =
    let t : ltb most (length text) ≡ false = grind (arith, nat_tests) in
    ap (λ (bs : List ℕ). first_stop (within bs) (bytes_stop most text)) (take_all most text short)
    ∙ ap (λ t. first_stop (within text) (cond t (Some (stop.Large limit.Bytes)) None)) t ∙ first_stop-none (within text)

-- bytes of which only the first are read
pub front_stop-long : (most : ℕ) (within : StopsIn) (text : List ℕ) → most < length text
    → front_stop most within text ≡ first_stop (within (take most text)) (Some (stop.Large limit.Bytes))
unfolding front_stop
front_stop-long most within text long =
    let t : ltb most (length text) ≡ true = grind (arith, nat_tests) in
    ap (λ t. first_stop (within (take most text)) (cond t (Some (stop.Large limit.Bytes)) None)) t

-- a whole input that is read whole, or not
pub input_stop-short : (most : ℕ) (within whole : StopsIn) (text : List ℕ) → length text ≤ most → input_stop most within whole text ≡ whole text
unfolding input_stop
input_stop-short most within whole text short =
    let t : ltb most (length text) ≡ false = grind (arith, nat_tests) in
    ap (λ t. cond t (front_stop most within text) (whole text)) t

pub input_stop-long : (most : ℕ) (within whole : StopsIn) (text : List ℕ) → most < length text
    → input_stop most within whole text ≡ front_stop most within text
unfolding input_stop
input_stop-long most within whole text long =
    let t : ltb most (length text) ≡ true = grind (arith, nat_tests) in
    ap (λ t. cond t (front_stop most within text) (whole text)) t

-- what is read of a text and a piece of which only so many bytes are read
read_of : (most : ℕ) (text piece : List ℕ) (n : ℕ) → length text + n ≡ most → take most (text ++ piece) ≡ text ++ take n piece
read_of most text piece n sum = ap (λ n. take n (text ++ piece)) (sym sum) ∙ take-append-add text piece n

-- what stops the bytes of a piece that are read stops the text with the piece: they are all of it, or all that is read
pub piece-stops : (most : ℕ) (within : StopsIn) (text piece : List ℕ) (n : ℕ) (s : Stop) → n ≤ length piece → length text + n ≤ most
    → (n < length piece → length text + n ≡ most) → within (text ++ take n piece) ≡ Some s → front_stop most within (text ++ piece) ≡ Some s
piece-stops most within text piece n s fits few cut found =
    let split : (t : Bool) → ltb n (length piece) ≡ t → front_stop most within (text ++ piece) ≡ Some s = elim [
      | true ↦ λ e.
          let more : n < length piece = grind (arith, nat_tests) in
          front_stop-long most within (text ++ piece) (omega (arith, cut more, length-append text piece))
          ∙ ap (λ (bs : List ℕ). first_stop (within bs) (Some (stop.Large limit.Bytes))) (read_of most text piece n (cut more))
          ∙ ap (λ o. first_stop o (Some (stop.Large limit.Bytes))) found
      | false ↦ λ e.
          let all : length piece ≤ n = grind (arith, nat_tests) in
          front_stop-short most within (text ++ piece) (omega (arith, length-append text piece))
          ∙ ap (λ (bs : List ℕ). within (text ++ bs)) (sym (take_all n piece all)) ∙ found
    ] in
    split (ltb n (length piece)) refl

-- a piece that goes past the limit on bytes
pub bytes-stop : (most : ℕ) (within : StopsIn) (text piece : List ℕ) (n : ℕ) → length text + n ≡ most → n < length piece
    → within (text ++ take n piece) ≡ None → front_stop most within (text ++ piece) ≡ Some (stop.Large limit.Bytes)
bytes-stop most within text piece n sum many sound =
    front_stop-long most within (text ++ piece) (omega (arith, sum, length-append text piece))
    ∙ ap (λ (bs : List ℕ). first_stop (within bs) (Some (stop.Large limit.Bytes))) (read_of most text piece n sum)
    ∙ ap (λ o. first_stop o (Some (stop.Large limit.Bytes))) sound

-- a stop that stays where more bytes come
abbrev Stays : StopsIn → Type 0
Stays within = (text more : List ℕ) (s : Stop) → within text ≡ Some s → within (text ++ more) ≡ Some s

stays-cut : (most : ℕ) (within : StopsIn) → Stays within → (text more : List ℕ) (s : Stop) → length text ≤ most → most < length (text ++ more)
    → front_stop most within text ≡ Some s → front_stop most within (text ++ more) ≡ Some s
stays-cut most within stays text more s short long h =
    let rest = most - length text in
    let found = stays text (take rest more) s (sym (front_stop-short most within text short) ∙ h) in
    front_stop-long most within (text ++ more) long
    ∙ ap (λ (bs : List ℕ). first_stop (within bs) (Some (stop.Large limit.Bytes))) (read_of most text more rest (omega arith))
    ∙ ap (λ o. first_stop o (Some (stop.Large limit.Bytes))) found

stays-long : (most : ℕ) (within : StopsIn) (text more : List ℕ) → most < length text → front_stop most within (text ++ more) ≡ front_stop most within text
stays-long most within text more long =
    front_stop-long most within (text ++ more) (omega (arith, length-append text more))
    ∙ ap (λ (bs : List ℕ). first_stop (within bs) (Some (stop.Large limit.Bytes))) (take-append-le most text more (omega arith))
    ∙ sym (front_stop-long most within text long)

pub front_stop-stays : (most : ℕ) (within : StopsIn) → Stays within → Stays (front_stop most within)
front_stop-stays most within stays text more s h =
    by_order (front_stop most within (text ++ more) ≡ Some s) (length text) most
    (λ short. by_order (front_stop most within (text ++ more) ≡ Some s) (length (text ++ more)) most
    (λ still. front_stop-short most within (text ++ more) still ∙ stays text more s (sym (front_stop-short most within text short) ∙ h))
    (λ long. stays-cut most within stays text more s short long h))
    (λ long. stays-long most within text more long ∙ h)

-- what stops the front of an input stops the input, where it stays and the end does not hide it
pub input_stop-stays : (most : ℕ) (within whole : StopsIn) → Stays within → ((text : List ℕ) (s : Stop) → within text ≡ Some s → whole text ≡ Some s)
    → (text more : List ℕ) (s : Stop) → front_stop most within text ≡ Some s → input_stop most within whole (text ++ more) ≡ Some s
input_stop-stays most within whole stays ends text more s h =
    let all = text ++ more in
    let found = front_stop-stays most within stays text more s h in
    by_order (input_stop most within whole all ≡ Some s) (length all) most
    (λ short. input_stop-short most within whole all short ∙ ends all s (sym (front_stop-short most within all short) ∙ found))
    (λ long. input_stop-long most within whole all long ∙ found)

-- the last pull found the end
pub reaches-end : (front whole : StopsIn) {S : Type 0} (left : S → Option (List ℕ)) (faults : S → ℕ) (pull : PullGives S) (old mid new : S)
    (text room filled : List ℕ) (s : Option Stop)
    → Took left faults pull 4096 old text mid → front text ≡ None → length room ≡ 4096 → length filled ≡ 4096
    → pull mid room (Ok 0) filled new → StopsBehind front whole text (Ok 0) s → ReadsTo pull front whole old text s new
reaches-end front whole left faults pull old mid new text room filled s took sound sized full gives stops = record {
  front = text;
  mid = mid;
  pulls = took.pulls;
  sound = sound;
  answer = Ok 0;
  piece = [];
  last = record { room = room; filled = filled; sized = sized; gives = gives; front = refl };
  sized = full;
  whole = sym (append-nil text);
  stops = stops;
}

-- and nothing stops the whole input
pub reads-whole : (front whole : StopsIn) (text : List ℕ) → whole text ≡ None → StopsBehind front whole text (Ok 0) None
reads-whole front whole text none = subst (StopsBehind front whole text (Ok 0)) none at_end

-- the last pull failed
pub breaks-off : (front whole : StopsIn) {S : Type 0} (left : S → Option (List ℕ)) (faults : S → ℕ) (pull : PullGives S) (old mid new : S)
    (text room filled : List ℕ) (taken : ℕ)
    → Took left faults pull 4096 old text mid → front text ≡ None → length room ≡ 4096 → length filled ≡ 4096
    → pull mid room (Err (record {})) filled new → length text ≡ taken → ReadsUpTo pull front whole old (stop.Read taken) new
breaks-off front whole left faults pull old mid new text room filled taken took sound sized full gives bytes = record {
  text = text;
  reads = record {
    front = text;
    mid = mid;
    pulls = took.pulls;
    sound = sound;
    answer = Err (record {});
    piece = [];
    last = record { room = room; filled = filled; sized = sized; gives = gives; front = refl };
    sized = full;
    whole = sym (append-nil text);
    stops = subst (λ n. StopsBehind front whole text (Err (record {})) (Some (stop.Read n))) bytes broke_off;
  };
  taken = sym bytes;
}

-- the last pull gave bytes, behind which nothing more is pulled
behind-piece : (front whole : StopsIn) {S : Type 0} (left : S → Option (List ℕ)) (faults : S → ℕ) (pull : PullGives S) (old mid new : S)
    (text piece : List ℕ) (n : ℕ) (s : Stop) → Took left faults pull 4096 old text mid → front text ≡ None
    → (last : Pulled pull 4096 mid (Ok n) piece new) → length last.filled ≡ 4096 → StopsBehind front whole (text ++ piece) (Ok n) (Some s)
    → ReadsTo pull front whole old (text ++ piece) (Some s) new
behind-piece front whole left faults pull old mid new text piece n s took sound last full stops = record {
  front = text;
  mid = mid;
  pulls = took.pulls;
  sound = sound;
  answer = Ok n;
  piece = piece;
  last = last;
  sized = full;
  whole = refl;
  stops = stops;
}

-- want of memory or a stop, behind which nothing more is pulled, and that is no failed pull
why-behind : (front whole : StopsIn) (text : List ℕ) (n : ℕ) (s : Stop) (P : Type 0) → 0 < n → (P → front text ≡ Some s) → IsInputStop s P
    → StopsBehind front whole text (Ok n) (Some s)
why-behind front whole text n stop.Memory P some g h = out_of_memory n
why-behind front whole text n (stop.Read taken) P some g h = absurd h
why-behind front whole text n (stop.Fault f) P some g h = in_piece n (stop.Fault f) some (g h)
why-behind front whole text n (stop.Large l) P some g h = in_piece n (stop.Large l) some (g h)
why-behind front whole text n (stop.Capture f) P some g h = in_piece n (stop.Capture f) some (g h)

why-at-end : (front whole : StopsIn) (text : List ℕ) (s : Stop) (P : Type 0) → (P → whole text ≡ Some s) → IsInputStop s P
    → StopsBehind front whole text (Ok 0) (Some s)
why-at-end front whole text stop.Memory P g h = out_of_memory 0
why-at-end front whole text (stop.Read taken) P g h = absurd h
why-at-end front whole text (stop.Fault f) P g h = subst (StopsBehind front whole text (Ok 0)) (g h) at_end
why-at-end front whole text (stop.Large l) P g h = subst (StopsBehind front whole text (Ok 0)) (g h) at_end
why-at-end front whole text (stop.Capture f) P g h = subst (StopsBehind front whole text (Ok 0)) (g h) at_end

-- it is no failed pull
no-read : (s : Stop) (P : Type 0) (text : List ℕ) → IsInputStop s P → IsTaken s text
no-read stop.Memory P text h = tt
no-read (stop.Read taken) P text h = absurd h
no-read (stop.Fault f) P text h = tt
no-read (stop.Large l) P text h = tt
no-read (stop.Capture f) P text h = tt

-- a piece stops the input, or memory was wanting for it
pub stops-in : (front whole : StopsIn) {S : Type 0} (left : S → Option (List ℕ)) (faults : S → ℕ) (pull : PullGives S) (old mid new : S)
    (text piece : List ℕ) (n : ℕ) (s : Stop) (P : Type 0)
    → Took left faults pull 4096 old text mid → front text ≡ None → 0 < n
    → (last : Pulled pull 4096 mid (Ok n) piece new) → length last.filled ≡ 4096 → (P → front (text ++ piece) ≡ Some s)
    → IsInputStop s P → ReadsUpTo pull front whole old s new
stops-in front whole left faults pull old mid new text piece n s P took sound some last full g h = record {
  text = text ++ piece;
  reads = behind-piece front whole left faults pull old mid new text piece n s took sound last full (why-behind front whole (text ++ piece) n s P some g h);
  taken = no-read s P (text ++ piece) h;
}

-- the end stops the input, or memory was wanting for its last line
pub stops-end : (front whole : StopsIn) {S : Type 0} (left : S → Option (List ℕ)) (faults : S → ℕ) (pull : PullGives S) (old mid new : S)
    (text room filled : List ℕ) (s : Stop) (P : Type 0)
    → Took left faults pull 4096 old text mid → front text ≡ None → length room ≡ 4096 → length filled ≡ 4096
    → pull mid room (Ok 0) filled new → (P → whole text ≡ Some s) → IsInputStop s P → ReadsUpTo pull front whole old s new
stops-end front whole left faults pull old mid new text room filled s P took sound sized full gives g h = record {
  text = text;
  reads = reaches-end front whole left faults pull old mid new text room filled (Some s) took sound sized full gives (why-at-end front whole text s P g h);
  taken = no-read s P text h;
}
