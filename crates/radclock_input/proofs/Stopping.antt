-- What stops an input stops each input that begins with the same bytes.
use Rattle.std.proofs.Common.{◌≡◌, ◌⊎◌, inl, inr, subst, ℕ, ◌+◌, ◌-◌, ◌<◌, ◌≤◌, Bool, true, false, cond, ltb, List, [], ◌∷◌, ◌++◌, Option, None, Some, length, take, refl, sym, ap, ◌∙◌, arith, length-append}
use Rattle.std.specs.Option.{option_map}
use Rattle.std.proofs.lemmas.Bool.Decides.{nat_tests}
use Rattle.std.proofs.lemmas.List.{take-append-le, take_all}
use Rattle.std.proofs.Math.Seq.{take-append-add}
use Rattle.stamp_text.specs.Grammar.{given, given_of_file, fault_so_far, fault_of_file}
use Rattle.stamp_text.specs.Past.{counts_of}
use Rattle.stamp_text.specs.declared.lines.Item.{Item}
use Rattle.stamp_text.specs.declared.lines.Line.{Line}
use Rattle.stamp_text.specs.declared.lines.Line.TheVariants as gives
use Rattle.stamp_text.specs.declared.lines.LineFault.{LineFault}
use Rattle.stamp_text.proofs.EndLaws.{end-faulty}
use Rattle.stamp_text.proofs.FeedLaws.{fault-stays-all}
use Rattle.stamp_text.proofs.GivenLaws.{given-frozen, given-more, given-end, given-end-faulty}
use Rattle.report_text.specs.declared.lines.Limit.TheVariants as limit
use Rattle.radclock_input.specs.declared.files.StampFile.{StampFile}
use Rattle.radclock_input.specs.declared.files.ItemLine.{ItemLine}
use Rattle.radclock_input.specs.declared.stops.Stop.{Stop}
use Rattle.radclock_input.specs.declared.stops.Stop.TheVariants as stop
use Rattle.radclock_input.specs.Inputs.{items_in, no_head, head_after, accepted_among, accepts_many, stop_by, stop_within, stop_whole, stop_so_far, stop_of_file}
use Rattle.radclock_input.specs.declared.quota.Quota.{Quota}
use Rattle.radclock_input.specs.Readings.{Gathers, IsFull, HasNoQuota}
use Rattle.radclock_input.proofs.Pulling.{input_stop-stays}
use Rattle.radclock_input.proofs.Heads.{IsHeaded, headed-given, headed-file}
use Rattle.radclock_input.proofs.Accepting.{items_in-append, accepted-line, many-stays, full-tested, not-many, are-many}

-- more stamps and sets are accepted than are taken
pub accepted-stop : (limited : Bool) (lines : List Line) (fault : Option LineFault) → accepts_many limited lines ≡ true
    → stop_by limited lines fault ≡ Some (stop.Large limit.Accepted)
accepted-stop limited lines fault many = ap (λ t. cond t (Some (stop.Large limit.Accepted))
    (cond (ltb 65536 (length (items_in lines))) (Some (stop.Large limit.Stamps)) (option_map stop.Fault fault))) many

-- more items than are taken
pub many-stop : (limited : Bool) (lines : List Line) (fault : Option LineFault) → accepts_many limited lines ≡ false
    → 65536 < length (items_in lines) → stop_by limited lines fault ≡ Some (stop.Large limit.Stamps)
many-stop limited lines fault few many =
    let t : ltb 65536 (length (items_in lines)) ≡ true = grind (arith, nat_tests) in
    ap (λ t. cond t (Some (stop.Large limit.Accepted)) (cond (ltb 65536 (length (items_in lines))) (Some (stop.Large limit.Stamps))
    (option_map stop.Fault fault))) few ∙ ap (λ t. cond t (Some (stop.Large limit.Stamps)) (option_map stop.Fault fault)) t

-- no more items than are taken
pub few-stop : (limited : Bool) (lines : List Line) (fault : Option LineFault) → accepts_many limited lines ≡ false → length (items_in lines) ≤ 65536
    → stop_by limited lines fault ≡ option_map stop.Fault fault
few-stop limited lines fault few short =
    let t : ltb 65536 (length (items_in lines)) ≡ false = grind (arith, nat_tests) in
    ap (λ t. cond t (Some (stop.Large limit.Accepted)) (cond (ltb 65536 (length (items_in lines))) (Some (stop.Large limit.Stamps))
    (option_map stop.Fault fault))) few ∙ ap (λ t. cond t (Some (stop.Large limit.Stamps)) (option_map stop.Fault fault)) t

-- what is kept of lines passes no limit
pub gathers-few : (limited : Bool) (file : StampFile) (quota : Quota) (lines : List Line) → Gathers limited file quota lines
    → accepts_many limited lines ≡ false
gathers-few limited file quota lines is = not-many limited lines is.few (λ on. (is.counts on).few)

pub gathers-stop : (limited : Bool) (file : StampFile) (quota : Quota) (lines : List Line) (fault : Option LineFault) → Gathers limited file quota
    lines → stop_by limited lines fault ≡ option_map stop.Fault fault
gathers-stop limited file quota lines fault is = few-stop limited lines fault (gathers-few limited file quota lines is) is.few

-- the limit that lines pass, and no other
record Passes (limited : Bool) (lines : List Line) (s : Stop) : Type 0 where
  is : (accepts_many limited lines ≡ true × (s ≡ stop.Large limit.Accepted))
      ⊎ (accepts_many limited lines ≡ false × (65536 < length (items_in lines)) × (s ≡ stop.Large limit.Stamps))

-- lines without a fault stop only where they pass a limit
stops-many : (limited : Bool) (lines : List Line) (s : Stop) → stop_by limited lines None ≡ Some s → Passes limited lines s
stops-many limited lines s h =
    let split : (a b : Bool) → accepts_many limited lines ≡ a → ltb 65536 (length (items_in lines)) ≡ b
    → cond a (Some (stop.Large limit.Accepted)) (cond b (Some (stop.Large limit.Stamps)) None) ≡ Some s → Passes limited lines s =
    elim [
      | true ↦ λ b ea eb g. record { is = inl (ea, cc) }
      | false ↦ elim [ true ↦ λ ea eb g. record { is = inr (ea, grind (arith, nat_tests), cc) } | false ↦ λ ea eb g. absurd (cc) ]
    ] in
    split (accepts_many limited lines) (ltb 65536 (length (items_in lines))) refl refl h

-- they stop also with more lines
passes-stays : (limited : Bool) (lines more : List Line) (fault : Option LineFault) (s : Stop) → IsHeaded (lines ++ more) → Passes limited lines s
    → stop_by limited (lines ++ more) fault ≡ Some s
passes-stays limited lines more fault s headed passes = elim passes.is [
  | inl accepted ↦ accepted-stop limited (lines ++ more) fault (many-stays limited lines more headed accepted.0) ∙ ap (λ s. Some s) (sym accepted.1)
  | inr many ↦ many-stop limited (lines ++ more) fault (full-tested limited lines more headed (omega (arith, many.1)) ∙ many.0)
      (omega (arith, many.1, ap length (items_in-append lines more), length-append (items_in lines) (items_in more))) ∙ ap (λ s. Some s) (sym many.2)
]

-- a stop stays where more lines are given, and none behind a fault
stop_by-stays : (limited : Bool) (lines lines' more : List Line) (fault fault' : Option LineFault) (s : Stop) → lines' ≡ lines ++ more
    → IsHeaded lines' → ((f : LineFault) → fault ≡ Some f → (lines' ≡ lines) × (fault' ≡ Some f)) → stop_by limited lines fault ≡ Some s
    → stop_by limited lines' fault' ≡ Some s
stop_by-stays limited lines lines' more fault fault' s e headed keeps h =
    let go : (fault : Option LineFault) → ((f : LineFault) → fault ≡ Some f → (lines' ≡ lines) × (fault' ≡ Some f)) → stop_by limited lines fault
    ≡ Some s → stop_by limited lines' fault' ≡ Some s =
    elim [
      | None ↦ λ k g. ap (λ ls. stop_by limited ls fault') e ∙ passes-stays limited lines more fault' s (subst IsHeaded e headed) (stops-many limited lines s g)
      | Some f ↦ λ k g. let kept = k f refl in ap (λ ls. stop_by limited ls fault') kept.0 ∙ ap (stop_by limited lines) kept.1 ∙ g
    ] in
    go fault keeps h

pub stop_within-stays : (limited : Bool) (text more : List ℕ) (s : Stop) → stop_within limited text ≡ Some s → stop_within limited (text ++ more) ≡ Some s
unfolding stop_within
stop_within-stays limited text more s h =
    let grown = given-more text more in
    stop_by-stays limited (given text) (given (text ++ more)) grown.0 (fault_so_far text) (fault_so_far (text ++ more)) s grown.1
    (headed-given (text ++ more)) (λ f found. (given-frozen text more f found, fault-stays-all text more f found)) h

-- the same at the end of a whole input
pub within-whole : (limited : Bool) (text : List ℕ) (s : Stop) → stop_within limited text ≡ Some s → stop_whole limited text ≡ Some s
unfolding stop_within stop_whole
within-whole limited text s h =
    let grown = given-end text in
    stop_by-stays limited (given text) (given_of_file text) grown.0 (fault_so_far text) (fault_of_file text) s grown.1 (headed-file text)
    (λ f found. (given-end-faulty text f (end-faulty text f found), end-faulty text f found)) h

-- what stops the front of a stamp file stops it
pub stop_of_file-stays : (limited : Bool) (text more : List ℕ) (s : Stop) → stop_so_far limited text ≡ Some s → stop_of_file limited (text ++ more) ≡ Some s
stop_of_file-stays limited = input_stop-stays 16777216 (stop_within limited) (stop_whole limited) (stop_within-stays limited) (within-whole limited)

-- bytes behind which there is a fault stop an input that passes no limit
pub fault-stops : (limited : Bool) (file : StampFile) (quota : Quota) (text more : List ℕ) (f : LineFault) → Gathers limited file quota (given text)
    → given more ≡ given text → fault_so_far more ≡ Some f → stop_within limited more ≡ Some (stop.Fault f)
unfolding stop_within
fault-stops limited file quota text more f is same found =
    ap (λ ls. stop_by limited ls (fault_so_far more)) same ∙ gathers-stop limited file quota (given text) (fault_so_far more) is
    ∙ ap (option_map stop.Fault) found

-- so does the end
pub end-stops : (limited : Bool) (file : StampFile) (quota : Quota) (text : List ℕ) (f : LineFault) → Gathers limited file quota (given text)
    → fault_of_file text ≡ Some f → stop_whole limited text ≡ Some (stop.Fault f)
unfolding stop_whole
end-stops limited file quota text f is found =
    ap (λ ls. stop_by limited ls (fault_of_file text)) (given-end-faulty text f found)
    ∙ gathers-stop limited file quota (given text) (fault_of_file text) is ∙ ap (option_map stop.Fault) found

one-item : (line : Line) → length (items_in (line ∷ [])) ≤ 1
one-item (gives.Head h) = omega arith
one-item (gives.Stamp n s) = omega arith
one-item (gives.Set n count at) = omega arith
one-item (gives.Leap n count leap) = omega arith

-- a line with which a limit is passed
full-stops : (limited : Bool) (file : StampFile) (quota : Quota) (lines : List Line) (line : Line) (fault : Option LineFault) (s : Stop) → Gathers
    limited file quota lines → IsHeaded (lines ++ line ∷ []) → IsFull s file line → stop_by limited (lines ++ line ∷ []) fault ≡ Some s
full-stops limited file quota lines line fault s is headed full =
    let all : items_in (lines ++ line ∷ []) ≡ file.items.items ++ items_in (line ∷ []) = items_in-append lines (line ∷ [])
    ∙ ap (λ (xs : List ItemLine). xs ++ items_in (line ∷ [])) (sym is.items) in
    let before = full-tested limited lines (line ∷ []) headed (omega
    (arith, full.full, one-item line, ap length is.items, length-append file.items.items (items_in (line ∷ []))))
    ∙ gathers-few limited file quota lines is in
    many-stop limited (lines ++ line ∷ []) fault before (omega (arith, full.full, ap length all)) ∙ ap (λ s. Some s) (sym full.limit)

spent-stops : (limited : Bool) (file : StampFile) (quota : Quota) (lines : List Line) (line : Line) (fault : Option LineFault) (s : Stop) → Gathers
    limited file quota lines → IsHeaded (lines ++ line ∷ []) → HasNoQuota s file quota line → stop_by limited (lines ++ line ∷ []) fault ≡ Some s
spent-stops limited file quota lines line fault s is headed spent =
    let all : items_in (lines ++ line ∷ []) ≡ file.items.items ++ items_in (line ∷ []) = items_in-append lines (line ∷ [])
    ∙ ap (λ (xs : List ItemLine). xs ++ items_in (line ∷ [])) (sym is.items) in
    let on : limited ≡ true = sym is.same ∙ spent.limited in
    let many = spent.many (accepted_among (head_after no_head lines).freq [] (items_in lines)) (is.counts on) in
    accepted-stop limited (lines ++ line ∷ []) fault (are-many limited (lines ++ line ∷ []) (omega (arith, spent.few, ap length all)) on
    (omega (arith, many, ap (λ (xs : List Item). length (counts_of xs)) (accepted-line file.head lines line headed is.head))))
    ∙ ap (λ s. Some s) (sym spent.limit)

line-passes : (limited : Bool) (file : StampFile) (quota : Quota) (lines : List Line) (line : Line) (fault : Option LineFault) (s : Stop) → Gathers
    limited file quota lines → IsHeaded (lines ++ line ∷ []) → IsFull s file line ⊎ HasNoQuota s file quota line
    → stop_by limited (lines ++ line ∷ []) fault ≡ Some s
line-passes limited file quota lines line fault s is headed (inl full) = full-stops limited file quota lines line fault s is headed full
line-passes limited file quota lines line fault s is headed (inr spent) = spent-stops limited file quota lines line fault s is headed spent

-- such a line stops an input
pub line-stops : (limited : Bool) (file : StampFile) (quota : Quota) (text more : List ℕ) (line : Line) (s : Stop) → Gathers limited file quota
    (given text) → given more ≡ given text ++ line ∷ [] → IsFull s file line ⊎ HasNoQuota s file quota line → stop_within limited more ≡ Some s
unfolding stop_within
line-stops limited file quota text more line s is gave passes = ap (λ ls. stop_by limited ls (fault_so_far more)) gave
    ∙ line-passes limited file quota (given text) line (fault_so_far more) s is (subst IsHeaded gave (headed-given more)) passes

-- so does one at the end
pub last-stops : (limited : Bool) (file : StampFile) (quota : Quota) (text : List ℕ) (line : Line) (s : Stop) → Gathers limited file quota (given text)
    → given_of_file text ≡ given text ++ line ∷ [] → IsFull s file line ⊎ HasNoQuota s file quota line → stop_whole limited text ≡ Some s
unfolding stop_whole
last-stops limited file quota text line s is gave passes = ap (λ ls. stop_by limited ls (fault_of_file text)) gave
    ∙ line-passes limited file quota (given text) line (fault_of_file text) s is (subst IsHeaded gave (headed-file text)) passes
