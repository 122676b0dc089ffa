-- While the accepted items of a file are kept.
use Rattle.std.proofs.Common.{◌≡◌, ℕ, ◌+◌, ◌<◌, ◌≤◌, List, [], ◌∷◌, ◌++◌, Result, Ok, Err, length, get_or, drop, refl, sym, ap, ◌∙◌}
use Rattle.std.proofs.lemmas.List.{drop_more}
use Rattle.stamp_text.specs.Accepted.{accepted_with}
use Rattle.stamp_text.specs.Past.{Seen, accept_item, seen_of, seen_after, test_of}
use Rattle.stamp_text.specs.declared.accepts.Refused.{Refused}
use Rattle.stamp_text.specs.declared.lines.Item.{Item}
use Rattle.stamp_text.proofs.PastLaws.{seen-push}
use Rattle.radclock_input.specs.declared.files.ItemLine.{ItemLine}
use Rattle.radclock_input.specs.Inputs.{accepted_among}

-- these are accepted up to line i, and with those of the rest they are all
pub record Accepts (freq : ℕ) (lines : List ItemLine) (i : ℕ) (seen : Seen) (items : List Item) : Type 0 where
  pub past : seen ≡ seen_of items
  pub rest : accepted_among freq [] lines ≡ accepted_among freq items (drop i lines)

-- one more item, with the answer to it
pub accepts-next : (freq : ℕ) (lines : List ItemLine) (i : ℕ) (d : ItemLine) (seen new : Seen) (items : List Item) (r : Result (Unit {0}) Refused)
    → i < length lines → Accepts freq lines i seen items → r ≡ test_of freq seen (get_or lines i d).item → new ≡ seen_after seen (get_or lines i d).item r
    → Accepts freq lines (i + 1) new (accepted_with items (get_or lines i d).item r)
accepts-next freq lines i d seen new items r within was test after =
    let x = (get_or lines i d).item in
    let answer : accept_item freq items x ≡ r = ap (λ s. test_of freq s x) (sym was.past) ∙ sym test in
    record {
      past = after ∙ kept r;
      rest = was.rest ∙ ap (accepted_among freq items) (drop_more lines i d within)
          ∙ ap (λ a. accepted_among freq (accepted_with items x a) (drop (i + 1) lines)) answer;
    }
  where
    kept : (a : Result (Unit {0}) Refused) → seen_after seen (get_or lines i d).item a ≡ seen_of (accepted_with items (get_or lines i d).item a)
    kept (Ok o) = ap (λ s. seen_after s (get_or lines i d).item (Ok o)) was.past ∙ sym (seen-push items (get_or lines i d).item)
    kept (Err why) = was.past
