-- What stays where the round trips in a window stay.
use Rattle.std.proofs.Common.{◌≡◌, ℕ, ◌+◌, ◌<◌, ◌≤◌, List, arith, ap, subst, sym}
use Rattle.std.proofs.Math.Path.{fun_ext}
use Rattle.min_lists.specs.declared.nodes.Node.{Node}
use Rattle.min_lists.specs.Lists.{IsFirstMinimum}
use Rattle.min_lists.specs.Links.{IsLinked}
use Rattle.min_lists.specs.Nodes.{trip_at, link_at, before_at, after_at}

module _ (trip trip' : ℕ → ℕ) where
  pub first_least_same : (from to i : ℕ) → ((j : ℕ) → from ≤ j → j < to → trip' j ≡ trip j) → IsFirstMinimum trip from to i → IsFirstMinimum trip' from to i
  first_least_same from to i same f =
      let here : trip' i ≡ trip i = same i f.low f.high in
      record {
        low = f.low;
        high = f.high;
        least = λ j l h. omega (arith, same j l h, f.least j l h);
        first = λ j l h. omega (arith, same j l (omega (arith, f.high)), f.first j l h);
      }

  pub linked_same : (before after : ℕ → ℕ) (from to head : ℕ) → ((j : ℕ) → from ≤ j → j < to → trip' j ≡ trip j) → IsLinked trip before after from to
      head → IsLinked trip' before after from to head
  linked_same before after from to head same f = record {
    ends = f.ends;
    least = λ l. first_least_same from to head same (f.least l);
    befores = λ i l h. let was = f.befores i l h in record {
      within = was.within;
      above = λ j m n k. omega (arith, was.above j m n k, same i l h, same j m (omega arith));
      not_above = λ j m e. omega (arith, was.not_above j m e, same i l h, same j m (omega (arith, was.within)));
    };
    afters = λ i l h low. first_least_same (i + 1) to (after i) (λ j m n. same j (omega arith) n)
        (f.afters i l h (λ j m n. omega (arith, low j m n, same i l (omega arith), same j (omega arith) n)));
  }

-- the same of nodes whose links in this list stay
pub list_same : (ns ns' : List Node) (p from to head : ℕ) → ((i : ℕ) → link_at ns' p i ≡ link_at ns p i) → ((i : ℕ) → from ≤ i → i < to
    → trip_at ns' i ≡ trip_at ns i)
    → IsLinked (trip_at ns) (before_at ns p) (after_at ns p) from to head → IsLinked (trip_at ns') (before_at ns' p) (after_at ns' p) from to head
list_same ns ns' p from to head links trips is =
    let befores : before_at ns' p ≡ before_at ns p = fun_ext (λ i. ap (λ l. l.before) (links i)) in
    let afters : after_at ns' p ≡ after_at ns p = fun_ext (λ i. ap (λ l. l.after) (links i)) in
    subst (λ before. IsLinked (trip_at ns') before (after_at ns' p) from to head) (sym befores)
    (subst (λ after. IsLinked (trip_at ns') (before_at ns p) after from to head) (sym afters)
    (linked_same (trip_at ns) (trip_at ns') (before_at ns p) (after_at ns p) from to head trips is))
