-- Output in blocks.
use Rattle.std.proofs.Common.{◌≡◌, ◌⊎◌, ℕ, ◌-◌, List, [], ◌∷◌, ◌++◌, Option, None, Result, Ok, Err, OnOk, OnErr, IsErr, length, take, drop, refl, sym, ap, ◌∙◌, subst, arith, append-nil, append_assoc, inl, inr, true≢false}
use Rattle.std.proofs.lemmas.List.{take-append-drop}
use Rattle.std.proofs.lemmas.List.Elements.{All-nil, All-push, All-append}
use Rattle.std.proofs.lemmas.List.Folds.{concat-append}
use Rattle.std.specs.List.{concat}
use Rattle.rad_io.specs.Blocks.{Gathering, IsFresh, IsBlock, HandsOn, StopsAt, Refuses, BlockGives, Closes, InBlocks}
use Rattle.rad_io.specs.Bytes.{PushAppends}
use Rattle.rad_io.specs.Causes.{HasCause}
use Rattle.rad_io.specs.Pushes.{Pushes, no_push, Wrote, Broke, Writes}
use Rattle.rad_io.specs.Pushes as pushes
use Rattle.rad_io.specs.declared.Failed.{Failed}
use Rattle.rad_io.proofs.Chains.{wrote_nothing, wrote_more, writes_last, broke, concat-push}
use Rattle.rad_io.proofs.Joining.{wrote-on, broke-on, broke-early, writes-on}
use Rattle.rad_io.proofs.Written.{rest_from}

-- bytes before and behind the middle of three
between : (a b c d e f g : List ℕ) → a ++ b ≡ c ++ d → d ++ e ≡ f ++ g → a ++ (b ++ e) ≡ (c ++ f) ++ g
between a b c d e f g first then = sym (append_assoc a b e) ∙ ap (λ (bs : List ℕ). bs ++ e) first ∙ append_assoc c d e
    ∙ ap (λ (bs : List ℕ). c ++ bs) then ∙ sym (append_assoc c f g)

-- a sink that tells nothing of what is written
pub untold : (r : Result (Unit {0}) Failed) (piece : List ℕ) → PushAppends None None r piece
untold (Ok o) piece = tt
untold (Err e) piece = (0, omega arith, tt)

module _ {K : Type 0} (written : K → Option (List ℕ)) (faults : K → ℕ) (push : K → List ℕ → Result (Unit {0}) Failed → K → Type 0) where
  -- nothing was pushed yet
  pub hands-none : (g : Gathering K) → g.faults ≡ 0 → HandsOn written faults push g [] g
  hands-none g sound = record {
    blocks = [];
    whole = All-nil IsBlock;
    wrote = wrote_nothing written faults push g.sink;
    bytes = append-nil g.block;
    sound = sound;
    same = sound;
  }

  -- bytes that make no whole block are held
  pub hands-held : (old new : Gathering K) (front : List ℕ) → old.faults ≡ 0 → new.faults ≡ 0 → new.sink ≡ old.sink → new.block ≡ old.block ++ front
      → HandsOn written faults push old front new
  hands-held old new front sound same sink held = record {
    blocks = [];
    whole = All-nil IsBlock;
    wrote = subst (Wrote written faults push old.sink []) (sym sink) (wrote_nothing written faults push old.sink);
    bytes = sym held;
    sound = sound;
    same = same;
  }

  -- a whole block is handed on
  pub hands-block : (old new : Gathering K) (front : List ℕ) → old.faults ≡ 0 → new.faults ≡ 0 → new.block ≡ [] → IsBlock (old.block ++ front)
      → PushAppends {T = Unit {0}} {E = Failed} (written old.sink) (written new.sink) (Ok tt) (old.block ++ front)
      → HasCause {T = Unit {0}} {E = Failed} (faults old.sink) (faults new.sink) (Ok tt)
      → push old.sink (old.block ++ front) (Ok tt) new.sink → HandsOn written faults push old front new
  hands-block old new front sound same none sized appends cause gives = record {
    blocks = (old.block ++ front) ∷ [];
    whole = All-push IsBlock [] (old.block ++ front) (All-nil IsBlock) sized;
    wrote = wrote_more written faults push old.sink old.sink new.sink [] (old.block ++ front) appends cause (wrote_nothing written faults push old.sink) gives;
    bytes = sym (ap (λ (bs : List ℕ). concat ((old.block ++ front) ∷ []) ++ bs) none ∙ append-nil (concat ((old.block ++ front) ∷ []))
        ∙ append-nil (old.block ++ front));
    sound = sound;
    same = same;
  }

  -- its push fails
  pub stops-block : (old new : Gathering K) (front : List ℕ) → old.faults ≡ 0 → new.faults ≡ 1
      → PushAppends {T = Unit {0}} {E = Failed} (written old.sink) (written new.sink) (Err (record {})) (old.block ++ front)
      → HasCause {T = Unit {0}} {E = Failed} (faults old.sink) (faults new.sink) (Err (record {}))
      → push old.sink (old.block ++ front) (Err (record {})) new.sink → StopsAt written faults push old front new
  stops-block old new front sound counted appends cause gives = record {
    blocks = (old.block ++ front) ∷ [];
    broke = broke written faults push old.sink old.sink new.sink [] (old.block ++ front) [] appends cause (wrote_nothing written faults push old.sink) gives;
    bytes = sym (append-nil (old.block ++ front));
    sound = sound;
    first = counted;
  }

  -- whatever the push answers
  pub block-ok : (old new : Gathering K) (front block : List ℕ) (r : Result (Unit {0}) Failed) → old.faults ≡ 0 → new.faults ≡ 0 → new.block ≡ []
      → block ≡ old.block ++ front → length block ≡ 65536
      → PushAppends (written old.sink) (written new.sink) r block → HasCause (faults old.sink) (faults new.sink) r → push old.sink block r new.sink
      → OnOk r (HandsOn written faults push old front new)
  block-ok old new front block (Ok o) sound same none is sized appends cause gives =
      let P : List ℕ → Type 0 = λ bs. (length bs ≡ 65536) × PushAppends {T = Unit {0}} {E = Failed} (written old.sink) (written new.sink) (Ok tt) bs
      × push old.sink bs (Ok tt) new.sink in
      let at = subst P is (sized, appends, gives) in
      hands-block old new front sound same none at.0 at.1 cause at.2
  block-ok old new front block (Err e) sound same none is sized appends cause gives = tt

  pub block-err : (old new : Gathering K) (front block : List ℕ) (r : Result (Unit {0}) Failed) → old.faults ≡ 0 → new.faults ≡ 1 → block ≡ old.block ++ front
      → PushAppends (written old.sink) (written new.sink) r block → HasCause (faults old.sink) (faults new.sink) r → push old.sink block r new.sink
      → OnErr r (StopsAt written faults push old front new)
  block-err old new front block (Ok o) sound counted is appends cause gives = tt
  block-err old new front block (Err e) sound counted is appends cause gives =
      let P : List ℕ → Type 0 = λ bs. PushAppends {T = Unit {0}} {E = Failed} (written old.sink) (written new.sink) (Err (record {})) bs
      × push old.sink bs (Err (record {})) new.sink in
      let at = subst P is (appends, gives) in
      stops-block old new front sound counted at.0 cause at.1

  -- the same of a value that is what is seen of a sink
  pub hands-from : (seen old new : Gathering K) (front : List ℕ) → seen ≡ old → HandsOn written faults push seen front new
      → HandsOn written faults push old front new
  hands-from seen old new front is h = subst (λ g. HandsOn written faults push g front new) is h

  pub ok-from : (seen old new : Gathering K) (front : List ℕ) (r : Result (Unit {0}) Failed) → seen ≡ old
      → OnOk r (HandsOn written faults push seen front new) → OnOk r (HandsOn written faults push old front new)
  ok-from seen old new front r is h = subst (λ g. OnOk r (HandsOn written faults push g front new)) is h

  pub err-from : (seen old new : Gathering K) (front : List ℕ) (r : Result (Unit {0}) Failed) → seen ≡ old
      → OnErr r (StopsAt written faults push seen front new) → OnErr r (StopsAt written faults push old front new)
  err-from seen old new front r is h = subst (λ g. OnErr r (StopsAt written faults push g front new)) is h

  -- one piece, and the next
  hands-on : (old mid new : Gathering K) (a b : List ℕ) → HandsOn written faults push old a mid → HandsOn written faults push mid b new
      → HandsOn written faults push old (a ++ b) new
  hands-on old mid new a b first then = record {
    blocks = first.blocks ++ then.blocks;
    whole = All-append IsBlock first.blocks then.blocks first.whole then.whole;
    wrote = wrote-on written faults push old.sink mid.sink new.sink first.blocks then.blocks first.wrote then.wrote;
    bytes = between old.block a (concat first.blocks) mid.block b (concat then.blocks) new.block first.bytes then.bytes
        ∙ ap (λ (bs : List ℕ). bs ++ new.block) (sym (concat-append first.blocks then.blocks));
    sound = first.sound;
    same = then.same;
  }

  -- the next stops
  stops-on : (old mid new : Gathering K) (a b : List ℕ) → HandsOn written faults push old a mid → StopsAt written faults push mid b new
      → StopsAt written faults push old (a ++ b) new
  stops-on old mid new a b first then = record {
    blocks = first.blocks ++ then.blocks;
    broke = broke-on written faults push old.sink mid.sink new.sink first.blocks then.blocks first.wrote then.broke;
    bytes = between old.block a (concat first.blocks) mid.block b (concat then.blocks) [] first.bytes
        (then.bytes ∙ sym (append-nil (concat then.blocks))) ∙ append-nil (concat first.blocks ++ concat then.blocks)
        ∙ sym (concat-append first.blocks then.blocks);
    sound = first.sound;
    first = then.first;
  }

  -- a piece stops, and more was to follow
  stops-early : (old new : Gathering K) (a b : List ℕ) → StopsAt written faults push old a new → StopsAt written faults push old (a ++ b) new
  stops-early old new a b first = record {
    blocks = first.blocks ++ b ∷ [];
    broke = broke-early written faults push old.sink new.sink first.blocks (b ∷ []) first.broke;
    bytes = sym (append_assoc old.block a b) ∙ ap (λ (bs : List ℕ). bs ++ b) first.bytes ∙ sym (concat-push first.blocks b);
    sound = first.sound;
    first = first.first;
  }

  -- while a piece is taken
  pub record Taking (old : Gathering K) (piece rest : List ℕ) (now : Gathering K) : Type 0 where
    pub front : List ℕ
    pub cut : piece ≡ front ++ rest
    pub hands : HandsOn written faults push old front now

  pub taking-more : (old mid new : Gathering K) (piece rest : List ℕ) (n : ℕ) → Taking old piece rest mid
      → HandsOn written faults push mid (take n rest) new → Taking old piece (take (length rest - n) (drop n rest)) new
  taking-more old mid new piece rest n t more = record {
    front = t.front ++ take n rest;
    cut = t.cut ∙ ap (λ (bs : List ℕ). t.front ++ bs) (sym (take-append-drop n rest)) ∙ sym (append_assoc t.front (take n rest) (drop n rest))
        ∙ ap (λ (bs : List ℕ). (t.front ++ take n rest) ++ bs) (sym (rest_from rest n));
    hands = hands-on old mid new t.front (take n rest) t.hands more;
  }

  pub taking-stops : (old mid new : Gathering K) (piece rest : List ℕ) (n : ℕ) → Taking old piece rest mid
      → StopsAt written faults push mid (take n rest) new → StopsAt written faults push old piece new
  taking-stops old mid new piece rest n t stops =
      let whole : (t.front ++ take n rest) ++ drop n rest ≡ piece = append_assoc t.front (take n rest) (drop n rest)
      ∙ ap (λ (bs : List ℕ). t.front ++ bs) (take-append-drop n rest) ∙ sym t.cut in
      subst (λ bs. StopsAt written faults push old bs new) whole (stops-early old new (t.front ++ take n rest) (drop n rest)
      (stops-on old mid new t.front (take n rest) t.hands stops))

  -- what many pushes hand on
  pushes-hand : (old : Gathering K) (pieces : List (List ℕ)) (new : Gathering K) → old.faults ≡ 0
      → Pushes (BlockGives written faults push) old pieces new → HandsOn written faults push old (concat pieces) new
  pushes-hand old pieces new sound no_push = hands-none old sound
  pushes-hand old all new sound (pushes.one_more pieces piece mid end then gives) =
      subst (λ bs. HandsOn written faults push old bs new) (sym (concat-push pieces piece))
      (hands-on old mid new (concat pieces) piece (pushes-hand old pieces mid sound then) gives.hands)

  -- lines that were pushed are written in blocks once all is closed
  pub wrote-in-blocks : (told : Gathering K → Option (List ℕ)) (counted : Gathering K → ℕ) (sink : K) (old mid : Gathering K) (lines : List (List ℕ))
      (r : Result (Unit {0}) Failed) (new : K) → IsFresh sink old → Wrote told counted (BlockGives written faults push) old lines mid
      → Closes written faults push mid r new → InBlocks written faults push sink lines r new
  wrote-in-blocks told counted sink old mid lines r new fresh wrote closes =
      let hands = pushes-hand old lines mid fresh.faults wrote.pushes in
      let last = closes.sound hands.same in
      record {
        blocks = hands.blocks ++ last.0;
        bytes = concat-append hands.blocks last.0 ∙ ap (λ (bs : List ℕ). concat hands.blocks ++ bs) last.1 ∙ sym hands.bytes
            ∙ ap (λ (bs : List ℕ). bs ++ concat lines) fresh.block;
        writes = subst (λ k. Writes written faults push k (hands.blocks ++ last.0) r new) fresh.behind
            (writes-on written faults push old.sink mid.sink new hands.blocks last.0 r hands.wrote last.2);
      }

  -- and where a push failed, some block was the last that was handed on
  stops-last : (mid new : Gathering K) (failed : List ℕ) → mid.faults ≡ 0 → Refuses mid new ⊎ StopsAt written faults push mid failed new
      → StopsAt written faults push mid failed new
  stops-last mid new failed sound (inl refuses) = absurd (omega (arith, refuses.failed, sound))
  stops-last mid new failed sound (inr stops) = stops

  pub broke-in-blocks : (told : Gathering K → Option (List ℕ)) (counted : Gathering K → ℕ) (sink : K) (old mid : Gathering K) (lines : List (List ℕ))
      (r : Result (Unit {0}) Failed) (new : K) → IsFresh sink old → Broke told counted (BlockGives written faults push) old lines mid
      → Closes written faults push mid r new → InBlocks {T = Unit {0}} written faults push sink lines (Err (record {})) new
  broke-in-blocks told counted sink old mid lines r new fresh broken closes =
      let hands = pushes-hand old broken.front broken.mid fresh.faults broken.pushes in
      let stops = stops-on old broken.mid mid (concat broken.front) broken.failed hands
      (stops-last broken.mid mid broken.failed hands.same broken.last.hands) in
      let all = stops-early old mid (concat broken.front ++ broken.failed) (concat broken.rest) stops in
      let whole : (concat broken.front ++ broken.failed) ++ concat broken.rest ≡ concat lines = append_assoc (concat broken.front) broken.failed
      (concat broken.rest) ∙ sym (concat-append broken.front (broken.failed ∷ broken.rest)) ∙ ap concat (sym broken.cut) in
      record {
        blocks = all.blocks;
        bytes = sym all.bytes ∙ ap (λ (bs : List ℕ). old.block ++ bs) whole ∙ ap (λ (bs : List ℕ). bs ++ concat lines) fresh.block;
        writes = subst (λ k. Broke written faults push sink all.blocks k) (sym (closes.failed (omega (arith, all.first))).1)
            (subst (λ k. Broke written faults push k all.blocks mid.sink) fresh.behind all.broke);
      }

  -- a push that stops
  pub gives-stop : (old new : Gathering K) (piece : List ℕ) (r : Result (Unit {0}) Failed) → IsErr r → StopsAt written faults push old piece new
      → BlockGives written faults push old piece r new
  gives-stop old new piece (Ok o) is stops = absurd (true≢false (sym is))
  gives-stop old new piece (Err e) is stops = record {
    cause = record { later = omega (arith, stops.sound); failed = omega (arith, stops.sound, stops.first); kept = tt };
    rose = omega (arith, stops.sound, stops.first);
    untold = untold (Err e) piece;
    hands = inr stops;
  }

  no-bytes : (bs : List ℕ) → length bs ≡ 0 → [] ≡ bs
  no-bytes [] e = refl
  no-bytes (b ∷ bs) e = absurd (cc)

  -- where nothing is held, nothing is handed on
  pub closes-empty : (seen old : Gathering K) → seen ≡ old → seen.faults ≡ 0 → length seen.block ≡ 0 → Closes written faults push old (Ok tt) seen.sink
  closes-empty seen old is sound none =
      let here : Closes written faults push seen (Ok tt) seen.sink = record {
        sound = λ _. ([], no-bytes seen.block none, wrote_nothing written faults push seen.sink);
        failed = λ some. absurd (omega (arith, some, sound));
      } in
      subst (λ g. Closes written faults push g (Ok tt) seen.sink) is here

  -- the last block
  pub closes-last : (seen old : Gathering K) (block : List ℕ) (r : Result (Unit {0}) Failed) (new : K) → seen ≡ old → seen.faults ≡ 0 → block ≡ seen.block
      → PushAppends (written seen.sink) (written new) r block → HasCause (faults seen.sink) (faults new) r → push seen.sink block r new
      → Closes written faults push old r new
  closes-last seen old block r new is sound held appends cause gives =
      let here : Closes written faults push seen r new = record {
        sound = λ _. (
          block ∷ [],
          append-nil block ∙ held,
          writes_last written faults push seen.sink seen.sink new [] block r appends cause
              (wrote_nothing written faults push seen.sink) gives,
        );
        failed = λ some. absurd (omega (arith, some, sound));
      } in
      subst (λ g. Closes written faults push g r new) is here
