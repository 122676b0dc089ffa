-- A line that is put together from its end.
use Rattle.std.proofs.Common.{◌≡◌, ℕ, List, ◌++◌, ap, sym, ◌∙◌, append_assoc}

-- a piece in front of what stands behind
piece : (before p behind : List ℕ) → before ++ (p ++ behind) ≡ before ++ p ++ behind
piece before p behind = sym (append_assoc before p behind)

-- a space and a piece
column : (before s p behind : List ℕ) → before ++ (s ++ p ++ behind) ≡ before ++ s ++ p ++ behind
column before s p behind = ap (λ (bs : List ℕ). before ++ bs) (append_assoc s p behind) ∙ piece before s (p ++ behind) ∙ piece (before ++ s) p behind

pub exchange_made : (s a b c d e f end : List ℕ) → a ++ (s ++ (b ++ (s ++ (c ++ (s ++ d ++ (s ++ e ++ (s ++ f ++ end))))))) ≡ a ++ s ++ b ++ s
    ++ c ++ s ++ d ++ s ++ e ++ s ++ f ++ end
exchange_made s a b c d e f end = piece _ s _ ∙ piece _ b _ ∙ piece _ s _ ∙ piece _ c _ ∙ column _ s d _ ∙ column _ s e _ ∙ column _ s f end
