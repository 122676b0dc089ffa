-- Lines that are put together from their ends.
use Rattle.std.proofs.Common.{◌≡◌, ℕ, List, ◌++◌, ap, sym, ◌∙◌, append_assoc}

-- a piece in front of what stands behind
piece : (before p behind : List ℕ) → before ++ (p ++ behind) ≡ before ++ p ++ behind
piece before p behind = sym (append_assoc before p behind)

-- a space and a piece
column : (before s p behind : List ℕ) → before ++ (s ++ p ++ behind) ≡ before ++ s ++ p ++ behind
column before s p behind = ap (λ (bs : List ℕ). before ++ bs) (append_assoc s p behind) ∙ piece before s (p ++ behind) ∙ piece (before ++ s) p behind

pub spread_made : (s a b c d e f behind : List ℕ) → a ++ (s ++ b ++ (s ++ c ++ (s ++ (d ++ (e ++ (f ++ behind)))))) ≡ a ++ s ++ b ++ s ++ c ++ s ++ d
    ++ e ++ f ++ behind
spread_made s a b c d e f behind = column _ s b _ ∙ column _ s c _ ∙ piece _ s _ ∙ piece _ d _ ∙ piece _ e _ ∙ piece _ f behind

pub estimate_made : (s a b c d e f behind : List ℕ) → a ++ (s ++ b ++ (s ++ c ++ (s ++ d ++ (s ++ e ++ (s ++ (f ++ behind)))))) ≡ a ++ s ++ b ++ s
    ++ c ++ s ++ d ++ s ++ e ++ s ++ f ++ behind
estimate_made s a b c d e f behind = column _ s b _ ∙ column _ s c _ ∙ column _ s d _ ∙ column _ s e _ ∙ piece _ s _ ∙ piece _ f behind

pub clock_made : (s a b c d e f g behind : List ℕ) → a ++ (s ++ b ++ (s ++ c ++ (s ++ d ++ (s ++ e ++ (s ++ f ++ (s ++ (g ++ behind))))))) ≡ a ++ s
    ++ b ++ s ++ c ++ s ++ d ++ s ++ e ++ s ++ f ++ s ++ g ++ behind
clock_made s a b c d e f g behind = column _ s b _ ∙ column _ s c _ ∙ column _ s d _ ∙ column _ s e _ ∙ column _ s f _ ∙ piece _ s _ ∙ piece _ g behind

pub stamp_made : (s w i a b c d e p end : List ℕ) → w ++ (i ++ (s ++ a ++ (s ++ b ++ (s ++ c ++ (s ++ d ++ (s ++ e ++ (p ++ end))))))) ≡ w ++ i ++ s
    ++ a ++ s ++ b ++ s ++ c ++ s ++ d ++ s ++ e ++ p ++ end
stamp_made s w i a b c d e p end = piece _ i _ ∙ column _ s a _ ∙ column _ s b _ ∙ column _ s c _ ∙ column _ s d _ ∙ column _ s e _ ∙ piece _ p end

pub base_made : (s w i a b c f end : List ℕ) → w ++ (i ++ (s ++ a ++ (s ++ b ++ (s ++ c ++ (s ++ (f ++ end)))))) ≡ w ++ i ++ s ++ a ++ s ++ b ++ s
    ++ c ++ s ++ f ++ end
base_made s w i a b c f end = piece _ i _ ∙ column _ s a _ ∙ column _ s b _ ∙ column _ s c _ ∙ piece _ s _ ∙ piece _ f end

pub reading_made : (s k a b t d behind : List ℕ) → k ++ (s ++ a ++ (s ++ b ++ (s ++ t ++ (s ++ (d ++ behind))))) ≡ k ++ s ++ a ++ s ++ b ++ s ++ t
    ++ s ++ d ++ behind
reading_made s k a b t d behind = column _ s a _ ∙ column _ s b _ ∙ column _ s t _ ∙ piece _ s _ ∙ piece _ d behind

pub summary_made : (w1 w2 w3 w4 w5 a b c d e end : List ℕ) → w1 ++ (a ++ (w2 ++ (b ++ (w3 ++ (c ++ (w4 ++ (d ++ (w5 ++ (e ++ end))))))))) ≡ w1 ++ a
    ++ w2 ++ b ++ w3 ++ c ++ w4 ++ d ++ w5 ++ e ++ end
summary_made w1 w2 w3 w4 w5 a b c d e end = piece _ a _ ∙ piece _ w2 _ ∙ piece _ b _ ∙ piece _ w3 _ ∙ piece _ c _ ∙ piece _ w4 _ ∙ piece _ d _
    ∙ piece _ w5 _ ∙ piece _ e end

pub end_made : (w v a b c d e end : List ℕ) → w ++ (a ++ (v ++ (b ++ (c ++ (d ++ (e ++ end)))))) ≡ w ++ a ++ v ++ b ++ c ++ d ++ e ++ end
end_made w v a b c d e end = piece _ a _ ∙ piece _ v _ ∙ piece _ b _ ∙ piece _ c _ ∙ piece _ d _ ∙ piece _ e end
