use Rattle.std.proofs.Common.{◌≡◌, ℕ, ◌+◌, ◌%◌, ◌<◌, ◌≤◌, ◌≢◌, subst, sym, ◌∙◌, arith}
use Rattle.std.proofs.Math.Path.{fun_ext}
use Rattle.min_lists.specs.Links.{IsLinked}
use Rattle.min_lists.specs.Nodes.{trip_at, before_at, after_at}
use Rattle.min_lists.proofs.Linking.{linked_behind}
use Rattle.min_lists.proofs.windows.Window.link_behind.Goals as goal

pub returns : goal.returns
returns c =
    let old = c.args.nodes.now in
    let new = c.set_after.new.self in
    let at : ℕ = c.args.place in
    let from : ℕ = c.args.self.from in
    let to : ℕ = c.args.self.to in
    let last : ℕ = c.args.last in
    let first = c.set_before.ensures in
    let second = c.set_after.ensures in
    let apart : (i : ℕ) → from ≤ i → i < to → i % 1024 ≢ to % 1024 = λ i l h. omega (arith, c.requires.near) in
    let elsewhere : (i : ℕ) → from ≤ i → i < to → i ≢ last → i % 1024 ≢ last % 1024 = λ i l h ne. omega
    (arith, c.requires.near, c.requires.last, c.requires.before.within) in
    let same : trip_at new ≡ trip_at old = fun_ext (λ i. second.trips i ∙ first.trips i) in
    let linked = linked_behind (trip_at old) (before_at old at) (after_at old at) (before_at new at) (after_at new at) from to c.args.self.head last
    c.requires.linked c.requires.last c.requires.before
    (second.befores to ∙ first.here) (λ i l h. second.befores i ∙ first.others i (apart i l h))
    second.here (λ i l h ne. second.others i (elsewhere i l h ne) ∙ first.afters i) in
    record {
      from = c.longer.ensures.from;
      to = c.longer.ensures.to;
      linked = rw (c.longer.ensures.from, c.longer.ensures.to, c.longer.ensures.head)
          (subst (λ trip. IsLinked trip (before_at new at) (after_at new at) from (to + 1) c.args.self.head) (sym same) linked);
      trips = λ i. second.trips i ∙ first.trips i;
      other_lists = λ q i ne. second.other_lists q i ne ∙ first.other_lists q i ne;
    }
