use Rattle.std.proofs.Common.{length, ap, arith}
use Rattle.callouts.proofs.Melding.{apart_kept}
use Rattle.callouts.proofs.Places.{length_places}
use Rattle.callouts.proofs.Taken.{remove_torn, remove_apart, remove_stale, remove_winners, remove_slots, remove_places}
use Rattle.callouts.proofs.slots.Slots.remove.Goals as goal

pub hook-hook-requires : goal.hook-hook-requires
hook-hook-requires c = omega (arith, length_places c.self.inside.nodes, ap length c.self.view_is)

pub kid-first-requires : goal.kid-first-requires
kid-first-requires c = omega (arith, length_places c.self.inside.nodes, ap length c.self.view_is)

pub kid-second-requires : goal.kid-second-requires
kid-second-requires c = omega (arith, length_places c.self.inside.nodes, ap length c.self.view_is)

pub free-requires : goal.free-requires
free-requires c = omega (arith, length_places c.self.inside.nodes, ap length c.self.view_is)

pub meld-requires-clause-apart : goal.meld-requires-clause-apart
meld-requires-clause-apart c = remove_apart _ _ _ _ _ _ c.self.view_is c.self.invariant c.requires.lives c.free.ensures c.hook-hook.ensures

pub meld-requires-clause-torn : goal.meld-requires-clause-torn
meld-requires-clause-torn c =
    rw (c.kid-first.ensures, c.kid-second.ensures) (remove_torn _ _ _ _ _ _ c.self.view_is c.self.invariant c.requires.lives c.free.ensures
    c.hook-hook.ensures)

pub play-requires-clause-apart : goal.play-requires-clause-apart
play-requires-clause-apart c =
    apart_kept _ _ _ c.meld.ensures.keeps (remove_apart _ _ _ _ _ _ c.self.view_is c.self.invariant c.requires.lives c.free.ensures c.hook-hook.ensures)

pub play-requires-clause-stale : goal.play-requires-clause-stale
play-requires-clause-stale c = remove_stale _ _ _ _ _ _ c.self.view_is c.self.invariant c.requires.lives c.free.ensures c.hook-hook.ensures _
    c.meld.ensures.keeps c.if-hook.true

pub invariant_of-self : goal.invariant_of-self
invariant_of-self c = remove_slots _ _ _ _ _ _ c.self.view_is c.self.invariant c.requires.lives c.free.ensures c.hook-hook.ensures _
    c.meld.ensures.keeps c.meld.ensures.heaps _ c.play.ensures

pub invariant_of-self-else-hook : goal.invariant_of-self-else-hook
invariant_of-self-else-hook c =
    remove_slots _ _ _ _ _ _ c.self.view_is c.self.invariant c.requires.lives c.free.ensures c.hook-hook.ensures _ c.meld.ensures.keeps c.meld.ensures.heaps _
    (remove_winners _ _ _ _ _ _ c.self.view_is c.self.invariant c.requires.lives c.free.ensures c.hook-hook.ensures _ c.meld.ensures.keeps c.if-hook.false)

pub returns-then-hook : goal.returns-then-hook
returns-then-hook c = remove_places _ _ _ _ _ _ c.self.view_is c.self.invariant c.requires.lives c.free.ensures c.hook-hook.ensures _ c.meld.ensures.keeps

pub returns-else-hook : goal.returns-else-hook
returns-else-hook c = remove_places _ _ _ _ _ _ c.self.view_is c.self.invariant c.requires.lives c.free.ensures c.hook-hook.ensures _ c.meld.ensures.keeps
