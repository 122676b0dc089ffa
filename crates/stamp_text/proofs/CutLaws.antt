-- One more byte behind a text that is cut into lines.
use Rattle.std.proofs.Common.{◌≡◌, ℕ, ◌≤◌, ◌-◌, Bool, true, false, cond, eqb, List, [], ◌∷◌, ◌++◌, length, get_or, take, refl, ap, sym, ◌∙◌, arith, length-append}
use Rattle.std.specs.List.{onto_first}
use Rattle.std.proofs.Math.Seq.{take-append_seam, get_or-append_seam}
use Rattle.std.proofs.lemmas.List.{length-take}
use Rattle.std.proofs.lemmas.List.Splits.{length-slice_split}
use Rattle.std.proofs.lemmas.List.Sums.{count_by-le-length}
use Rattle.stamp_text.specs.Cut.{parts_of, ended_lines, open_line}

-- the parts of a text: the ended lines and the open one, and what another byte makes of them
record Parted (text : List ℕ) (x : ℕ) : Type 0 where
  ended : List (List ℕ)
  last : List ℕ
  parts : parts_of text ≡ ended ++ last ∷ []
  feed : parts_of (text ++ 10 ∷ []) ≡ (ended ++ last ∷ []) ++ [] ∷ []
  more : parts_of (text ++ x ∷ []) ≡ ended ++ (last ++ x ∷ []) ∷ []

-- a byte in front of parts goes to the first of them
parted-onto : (b : ℕ) (text : List ℕ) (x : ℕ) → Parted text x → (ended : List (List ℕ)) × (last : List ℕ)
    × (onto_first b (parts_of text) ≡ ended ++ last ∷ []) × (onto_first b (parts_of (text ++ 10 ∷ [])) ≡ (ended ++ last ∷ []) ++ [] ∷ [])
    × (onto_first b (parts_of (text ++ x ∷ [])) ≡ ended ++ (last ++ x ∷ []) ∷ [])
parted-onto b text x p =
    let split : (es : List (List ℕ)) → parts_of text ≡ es ++ p.last ∷ [] → parts_of (text ++ 10 ∷ []) ≡ (es ++ p.last ∷ []) ++ [] ∷ []
    → parts_of (text ++ x ∷ []) ≡ es ++ (p.last ++ x ∷ []) ∷ [] → (ended : List (List ℕ)) × (last : List ℕ)
    × (onto_first b (parts_of text) ≡ ended ++ last ∷ []) × (onto_first b (parts_of (text ++ 10 ∷ [])) ≡ (ended ++ last ∷ []) ++ [] ∷ [])
    × (onto_first b (parts_of (text ++ x ∷ [])) ≡ ended ++ (last ++ x ∷ []) ∷ []) =
    elim [
      | [] ↦ λ e f g. ([], b ∷ p.last, ap (onto_first b) e, ap (onto_first b) f, ap (onto_first b) g)
      | l ∷ ls ↦ λ e f g. ((b ∷ l) ∷ ls, p.last, ap (onto_first b) e, ap (onto_first b) f, ap (onto_first b) g)
    ] in
    split p.ended p.parts p.feed p.more

parted : (text : List ℕ) (x : ℕ) → eqb x 10 ≡ false → Parted text x
parted [] x other = record { ended = []; last = []; parts = refl; feed = refl; more = ap (λ t. cond t ([] ∷ [] ∷ []) ((x ∷ []) ∷ [])) other }
parted (b ∷ bs) x other =
    let p = parted bs x other in
    let split : (t : Bool) → eqb b 10 ≡ t → Parted (b ∷ bs) x =
    elim [
      | true ↦ λ e. record {
        ended = [] ∷ p.ended;
        last = p.last;
        parts = ap (λ t. cond t ([] ∷ parts_of bs) (onto_first b (parts_of bs))) e ∙ ap (λ (ps : List (List ℕ)). [] ∷ ps) p.parts;
        feed = ap (λ t. cond t ([] ∷ parts_of (bs ++ 10 ∷ [])) (onto_first b (parts_of (bs ++ 10 ∷ [])))) e ∙ ap (λ (ps : List (List ℕ)). [] ∷ ps) p.feed;
        more = ap (λ t. cond t ([] ∷ parts_of (bs ++ x ∷ [])) (onto_first b (parts_of (bs ++ x ∷ [])))) e ∙ ap (λ (ps : List (List ℕ)). [] ∷ ps) p.more;
      }
      | false ↦ λ e.
          let o = parted-onto b bs x p in
          record {
            ended = o.0;
            last = o.1;
            parts = ap (λ t. cond t ([] ∷ parts_of bs) (onto_first b (parts_of bs))) e ∙ o.2;
            feed = ap (λ t. cond t ([] ∷ parts_of (bs ++ 10 ∷ [])) (onto_first b (parts_of (bs ++ 10 ∷ [])))) e ∙ o.3;
            more = ap (λ t. cond t ([] ∷ parts_of (bs ++ x ∷ [])) (onto_first b (parts_of (bs ++ x ∷ [])))) e ∙ o.4;
          }
    ] in
    split (eqb b 10) refl

-- all but the last, and the last
front-push : (ls : List (List ℕ)) (l : List ℕ) → take (length (ls ++ l ∷ []) - 1) (ls ++ l ∷ []) ≡ ls
front-push ls l =
    let n : length (ls ++ l ∷ []) - 1 ≡ length ls = omega (arith, length-append ls (l ∷ [])) in
    ap (λ k. take k (ls ++ l ∷ [])) n ∙ take-append_seam ls (l ∷ [])

last-push : (ls : List (List ℕ)) (l : List ℕ) → get_or (ls ++ l ∷ []) (length (ls ++ l ∷ []) - 1) [] ≡ l
last-push ls l =
    let n : length (ls ++ l ∷ []) - 1 ≡ length ls = omega (arith, length-append ls (l ∷ [])) in
    ap (λ k. get_or (ls ++ l ∷ []) k []) n ∙ get_or-append_seam ls l [] []

-- the ended lines and the open one by parts that are known
pub ended_by : (text : List ℕ) (ls : List (List ℕ)) (l : List ℕ) → parts_of text ≡ ls ++ l ∷ [] → ended_lines text ≡ ls
ended_by text ls l e = ap (λ (ps : List (List ℕ)). take (length ps - 1) ps) e ∙ front-push ls l

pub open_by : (text : List ℕ) (ls : List (List ℕ)) (l : List ℕ) → parts_of text ≡ ls ++ l ∷ [] → open_line text ≡ l
open_by text ls l e = ap (λ (ps : List (List ℕ)). get_or ps (length ps - 1) []) e ∙ last-push ls l

-- the parts are the ended lines and the open one
pub parts_are : (text : List ℕ) → parts_of text ≡ ended_lines text ++ open_line text ∷ []
parts_are text =
    let p = parted text 0 refl in
    p.parts ∙ ap (λ (ls : List (List ℕ)). ls ++ p.last ∷ []) (sym (ended_by text p.ended p.last p.parts))
    ∙ ap (λ (l : List ℕ). ended_lines text ++ l ∷ []) (sym (open_by text p.ended p.last p.parts))

-- a line feed ends the open line
pub ended_lines-feed : (text : List ℕ) → ended_lines (text ++ 10 ∷ []) ≡ ended_lines text ++ open_line text ∷ []
ended_lines-feed text = let p = parted text 0 refl in ended_by (text ++ 10 ∷ []) (p.ended ++ p.last ∷ []) [] p.feed ∙ sym p.parts ∙ parts_are text

-- a line feed leaves no line open
pub open_line-feed : (text : List ℕ) → open_line (text ++ 10 ∷ []) ≡ []
open_line-feed text = let p = parted text 0 refl in open_by (text ++ 10 ∷ []) (p.ended ++ p.last ∷ []) [] p.feed

-- another byte ends no line
pub ended_lines-more : (text : List ℕ) (x : ℕ) → eqb x 10 ≡ false → ended_lines (text ++ x ∷ []) ≡ ended_lines text
ended_lines-more text x other = let p = parted text x other in ended_by (text ++ x ∷ []) p.ended (p.last ++ x ∷ []) p.more
    ∙ sym (ended_by text p.ended p.last p.parts)

-- another byte goes to the open line
pub open_line-more : (text : List ℕ) (x : ℕ) → eqb x 10 ≡ false → open_line (text ++ x ∷ []) ≡ open_line text ++ x ∷ []
open_line-more text x other = let p = parted text x other in open_by (text ++ x ∷ []) p.ended (p.last ++ x ∷ []) p.more
    ∙ ap (λ (l : List ℕ). l ++ x ∷ []) (sym (open_by text p.ended p.last p.parts))

-- there are no more lines than bytes
pub ended_lines-short : (text : List ℕ) → length (ended_lines text) ≤ length text
ended_lines-short text = omega (
  arith,
  length-take (length (parts_of text) - 1) (parts_of text),
  length-slice_split (λ b. eqb b 10) text,
  count_by-le-length (λ b. eqb b 10) text,
)
