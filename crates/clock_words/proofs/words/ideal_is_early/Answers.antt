use Rattle.std.proofs.Common.{rules, ℕ, List, ◌∙◌, ap, sym, Bool, codes, Bor, take}
use Rattle.std.specs.List.{list_any}
use Rattle.std.specs.Str.{bytes_eq}
use Rattle.std.proofs.lemmas.List.{take-map}
use Rattle.std.proofs.lemmas.Iterator.{YieldsList-from_slice, YieldsList-from_take}
use Rattle.std.proofs.lemmas.Iterator.Search.{any_from_yields_List}
use Rattle.clap.proofs.WalkLemmas.{list_any-map}
use Rattle.clock_words.proofs.words.ideal_is_early.Goals as goal

pub returns : goal.returns
returns c =
    let test : List ℕ → Bool = λ w. bytes_eq w (codes "--ideal") in
    any_from_yields_List (λ (w : Bor (List ℕ)). test w.now) _ _ c.any.result c.any.ensures.ran
    (YieldsList-from_take 2 (YieldsList-from_slice c.args.words.now cc) cc) (λ x b q k. search rules)
    ∙ list_any-map test (λ (w : Bor (List ℕ)). w.now) (take 2 c.args.words.now)
    ∙ ap (list_any test) (sym (take-map (λ (w : Bor (List ℕ)). w.now) 2 c.args.words.now))
