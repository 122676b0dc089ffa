-- Readers that are put together read the texts that are put together.
use Rattle.std.proofs.Common.{◌≡◌, ℕ, true, cond, Some, None, Option, List, [], ◌∷◌, ◌++◌, length, take, drop, refl, sym, ap, subst, ◌∙◌, append_assoc}
use Rattle.std.specs.Bool.{⊤}
use Rattle.std.specs.Str.{bytes_eq}
use Rattle.std.specs.List.{AllByRecursion}
use Rattle.std.proofs.lemmas.List.{take_at, drop_at, take-append-drop}
use Rattle.std.proofs.lemmas.Option.{cond_some, some_pair_parts, none-some}
use Rattle.std.proofs.lemmas.Slice.Eq.{bytes_eq-Decides}
use Rattle.journal_check.specs.Lines.{trailed_at}
use Rattle.journal_check.specs.Reading.{Reader, ◌▹◌, stripped, led_at, both_at, as_at, or_else, choice_at, first_of, either_at, IsStop, Reads}

pub bind_some : {A B : Type 0} (o : Option A) (f : A → Option B) (y : B) → (o ▹ f) ≡ Some y → (x : A) × (o ≡ Some x) × (f x ≡ Some y)
bind_some None f y e = absurd (none-some y e)
bind_some (Some x) f y e = (x, refl, e)

-- what readers that are put together answer where each has its value
pub both_some : {A B : Type 0} (r : Reader A) (s : Reader B) (text mid rest : List ℕ) (a : A) (b : B) → Some (a, mid) ≡ r text → Some (b, rest) ≡ s mid → Some ((a, b), rest) ≡ both_at r s text
both_some {A} {B} r s text mid rest a b e f = ap (λ o. o ▹ λ (y : B × List ℕ). Some ((a, y.0), y.1)) f ∙ ap (λ o. o ▹ λ (x : A × List ℕ). s x.1 ▹ λ (y : B × List ℕ). Some ((x.0, y.0), y.1)) e

pub as_some : {A B : Type 0} (made : A → B) (r : Reader A) (text rest : List ℕ) (a : A) → Some (a, rest) ≡ r text → Some (made a, rest) ≡ as_at made r text
as_some {A} {B} made r text rest a e = ap (λ o. o ▹ λ (x : A × List ℕ). Some (made x.0, x.1)) e

-- ---- words

pub stripped-append : (word rest : List ℕ) → stripped word (word ++ rest) ≡ Some rest
stripped-append word rest =
    let front = take_at word rest (length word) refl in
    let same : bytes_eq (take (length word) (word ++ rest)) word ≡ true = (bytes_eq-Decides (take (length word) (word ++ rest)) word).1 front in
    ap (λ t. cond t (Some (drop (length word) (word ++ rest))) None) same ∙ ap (λ (t : List ℕ). Some t) (drop_at word rest (length word) refl)

pub stripped_takes : (word text rest : List ℕ) → stripped word text ≡ Some rest → text ≡ word ++ rest
stripped_takes word text rest e =
    let both = cond_some (bytes_eq (take (length word) text) word) (drop (length word) text) rest e in
    let front = (bytes_eq-Decides (take (length word) text) word).0 both.0 in
    sym (take-append-drop (length word) text) ∙ (λ k. front k ++ both.1 k)

-- ---- what readers are put together by

pub led_reads : {A : Type 0} {f : A → List ℕ} {F : A → Type 0} {r : Reader A} (word : List ℕ) → Reads f F r → Reads (λ a. word ++ f a) F (led_at word r)
led_reads {f = f} {r = r} word h = record {
  again = λ a rest fits stop. ap (led_at word r) (append_assoc word (f a) rest) ∙ ap (λ o. o ▹ r) (stripped-append word (f a ++ rest)) ∙ h.again a rest fits stop;
  takes = λ bytes rest a e.
      let b = bind_some (stripped word bytes) r (a, rest) e in
      let t = h.takes b.0 rest a b.2 in
      (stripped_takes word bytes b.0 b.1 ∙ ap (λ (t : List ℕ). word ++ t) t.0 ∙ sym (append_assoc word (f a) rest), t.1);
}

-- what is put behind a value begins with no digit or letter
abbrev pub Stops : {B : Type 0} → (B → List ℕ) → Type 0
Stops {B} g = (b : B) (rest : List ℕ) → IsStop rest → IsStop (g b ++ rest)

pub both_reads : {A B : Type 0} {f : A → List ℕ} {F : A → Type 0} {r : Reader A} {g : B → List ℕ} {G : B → Type 0} {s : Reader B} → Reads f F r → Reads g G s → Stops g → Reads (λ (p : A × B). f p.0 ++ g p.1) (λ p. F p.0 × G p.1) (both_at r s)
both_reads {A = A} {B = B} {f = f} {F = F} {r = r} {g = g} {G = G} {s = s} h k stops = record {
  again = λ p rest fits stop.
      let first = h.again p.0 (g p.1 ++ rest) fits.0 (stops p.1 rest stop) in
      let second = k.again p.1 rest fits.1 stop in
      let then = λ (x : A × List ℕ). s x.1 ▹ λ (y : B × List ℕ). Some ((x.0, y.0), y.1) in
      ap (both_at r s) (append_assoc (f p.0) (g p.1) rest) ∙ ap (λ o. o ▹ then) first ∙ ap (λ o. o ▹ λ (y : B × List ℕ). Some ((p.0, y.0), y.1)) second;
  takes = λ bytes rest p e.
      let x = bind_some (r bytes) (λ (x : A × List ℕ). s x.1 ▹ λ (y : B × List ℕ). Some ((x.0, y.0), y.1)) (p, rest) e in
      let y = bind_some (s x.0.1) (λ (y : B × List ℕ). Some ((x.0.0, y.0), y.1)) (p, rest) x.2 in
      let a = h.takes bytes x.0.1 x.0.0 x.1 in
      let b = k.takes x.0.1 y.0.1 y.0.0 y.1 in
      let same = some_pair_parts (x.0.0, y.0.0) p y.0.1 rest y.2 in
      let text : bytes ≡ (f x.0.0 ++ g y.0.0) ++ y.0.1 = a.0 ∙ ap (λ (t : List ℕ). f x.0.0 ++ t) b.0 ∙ sym (append_assoc (f x.0.0) (g y.0.0) y.0.1) in
      (text ∙ (λ i. (f (same.0 i).0 ++ g (same.0 i).1) ++ same.1 i), subst (λ (q : A × B). F q.0 × G q.1) same.0 (a.1, b.1));
}

-- a value that is put together otherwise, by its parts
pub as_reads : {A B : Type 0} {f : A → List ℕ} {F : A → Type 0} {r : Reader A} (made : A → B) (parts : B → A) → ((b : B) → made (parts b) ≡ b) → ((a : A) → parts (made a) ≡ a) → Reads f F r → Reads (λ b. f (parts b)) (λ b. F (parts b)) (as_at made r)
as_reads {A = A} {B = B} {f = f} {F = F} {r = r} made parts there back h = record {
  again = λ b rest fits stop. ap (λ o. o ▹ λ (x : A × List ℕ). Some (made x.0, x.1)) (h.again (parts b) rest fits stop) ∙ ap (λ (c : B). Some (c, rest)) (there b);
  takes = λ bytes rest b e.
      let x = bind_some (r bytes) (λ (x : A × List ℕ). Some (made x.0, x.1)) (b, rest) e in
      let a = h.takes bytes x.0.1 x.0.0 x.1 in
      let same = some_pair_parts (made x.0.0) b x.0.1 rest x.2 in
      let part : x.0.0 ≡ parts b = sym (back x.0.0) ∙ ap parts same.0 in
      (a.0 ∙ (λ i. f (part i) ++ same.1 i), subst F part a.1);
}

-- a value that is put together of less than it has, where the rest is known
pub made_reads : {A B : Type 0} {f : A → List ℕ} {F : A → Type 0} {G : B → Type 0} {r : Reader A} (made : A → B) (parts : B → A) → ((b : B) → G b → F (parts b) × (made (parts b) ≡ b)) → ((a : A) → F a → G (made a)) → ((a : A) → parts (made a) ≡ a) → Reads f F r → Reads (λ b. f (parts b)) G (as_at made r)
made_reads {A = A} {B = B} {f = f} {F = F} {G = G} {r = r} made parts there fits back h = record {
  again = λ b rest g stop. ap (λ o. o ▹ λ (x : A × List ℕ). Some (made x.0, x.1)) (h.again (parts b) rest (there b g).0 stop) ∙ ap (λ (c : B). Some (c, rest)) (there b g).1;
  takes = λ bytes rest b e.
      let x = bind_some (r bytes) (λ (x : A × List ℕ). Some (made x.0, x.1)) (b, rest) e in
      let a = h.takes bytes x.0.1 x.0.0 x.1 in
      let same = some_pair_parts (made x.0.0) b x.0.1 rest x.2 in
      let part : x.0.0 ≡ parts b = sym (back x.0.0) ∙ ap parts same.0 in
      (a.0 ∙ (λ i. f (part i) ++ same.1 i), subst G same.0 (fits x.0.0 a.1));
}

-- the same where the text of a value is that of its parts, though other values have these parts, too
pub told_reads : {A B : Type 0} {f : A → List ℕ} {F : A → Type 0} {r : Reader A} (made : A → B) (parts : B → A) (g : B → List ℕ) (G : B → Type 0)
    → ((b : B) → G b → F (parts b) × ((made (parts b) ≡ b) × (f (parts b) ≡ g b))) → ((a : A) → F a → G (made a) × (f a ≡ g (made a))) → Reads f F r
    → Reads g G (as_at made r)
told_reads {A = A} {B = B} {r = r} made parts g G there back h = record {
  again = λ b rest fits stop.
      let p = there b fits in
      ap (λ (t : List ℕ). as_at made r (t ++ rest)) (sym p.1.1) ∙ ap (λ o. o ▹ λ (x : A × List ℕ). Some (made x.0, x.1)) (h.again (parts b) rest p.0 stop)
      ∙ ap (λ (c : B). Some (c, rest)) p.1.0;
  takes = λ bytes rest b e.
      let x = bind_some (r bytes) (λ (x : A × List ℕ). Some (made x.0, x.1)) (b, rest) e in
      let same = some_pair_parts (made x.0.0) b x.0.1 rest x.2 in
      let t = h.takes bytes x.0.1 x.0.0 x.1 in
      let k = back x.0.0 t.1 in
      (t.0 ∙ ap (λ (w : List ℕ). w ++ x.0.1) k.1 ∙ (λ i. g (same.0 i) ++ same.1 i), subst G same.0 k.0);
}

-- a value with a word behind it
pub trailed_reads : {A : Type 0} {f : A → List ℕ} {F : A → Type 0} {r : Reader A} (word : List ℕ) → ((rest : List ℕ) → IsStop (word ++ rest)) → Reads f F r → Reads (λ a. f a ++ word) F (trailed_at word r)
trailed_reads {A = A} {f = f} {F = F} {r = r} word stops h = record {
  again = λ a rest fits stop.
      let first = h.again a (word ++ rest) fits (stops rest) in
      ap (trailed_at word r) (append_assoc (f a) word rest) ∙ ap (λ o. o ▹ λ (x : A × List ℕ). stripped word x.1 ▹ λ (t : List ℕ). Some (x.0, t)) first ∙ ap (λ o. o ▹ λ (t : List ℕ). Some (a, t)) (stripped-append word rest);
  takes = λ bytes rest a e.
      let x = bind_some (r bytes) (λ (x : A × List ℕ). stripped word x.1 ▹ λ (t : List ℕ). Some (x.0, t)) (a, rest) e in
      let t = bind_some (stripped word x.0.1) (λ (t : List ℕ). Some (x.0.0, t)) (a, rest) x.2 in
      let b = h.takes bytes x.0.1 x.0.0 x.1 in
      let same = some_pair_parts x.0.0 a t.0 rest t.2 in
      let text : bytes ≡ (f x.0.0 ++ word) ++ t.0 = b.0 ∙ ap (λ (w : List ℕ). f x.0.0 ++ w) (stripped_takes word x.0.1 t.0 t.1) ∙ sym (append_assoc (f x.0.0) word t.0) in
      (text ∙ (λ i. (f (same.0 i) ++ word) ++ same.1 i), subst F same.0 b.1);
}

-- the same by a text and a range that are others in form alone
pub reads_as : {A : Type 0} {f g : A → List ℕ} {F G : A → Type 0} {r : Reader A} → ((a : A) → f a ≡ g a) → ((a : A) → F a → G a) → ((a : A) → G a → F a) → Reads f F r → Reads g G r
reads_as {r = r} same there back h = record {
  again = λ a rest fits stop. ap (λ (t : List ℕ). r (t ++ rest)) (sym (same a)) ∙ h.again a rest (back a fits) stop;
  takes = λ bytes rest a e. let t = h.takes bytes rest a e in (t.0 ∙ ap (λ (t : List ℕ). t ++ rest) (same a), there a t.1);
}

-- ---- a word of a table

abbrev pub IsTableOf : {A : Type 0} → (A → List ℕ) → List (List ℕ × A) → Type 0
IsTableOf name table = AllByRecursion (λ (w : List ℕ × _). w.0 ≡ name w.1) table

choice_takes : {A : Type 0} (name : A → List ℕ) (table : List (List ℕ × A)) → IsTableOf name table → (bytes rest : List ℕ) (a : A) → choice_at table bytes ≡ Some (a, rest) → bytes ≡ name a ++ rest
choice_takes name [] is bytes rest a e = absurd (none-some (a, rest) e)
choice_takes name (w ∷ ws) is bytes rest a e =
    let split : (o : Option (List ℕ)) → stripped w.0 bytes ≡ o → or_else w.1 (choice_at ws bytes) o ≡ Some (a, rest) → bytes ≡ name a ++ rest =
    elim [
      | None ↦ λ q h. choice_takes name ws is.1 bytes rest a h
      | Some behind ↦ λ q h.
          let same = some_pair_parts w.1 a behind rest h in
          stripped_takes w.0 bytes behind q ∙ ap (λ (t : List ℕ). t ++ behind) is.0 ∙ (λ i. name (same.0 i) ++ same.1 i)
    ] in
    split (stripped w.0 bytes) refl e

-- each word of a table is the first of it that stands there
pub choice_reads : {A : Type 0} (name : A → List ℕ) (table : List (List ℕ × A)) → IsTableOf name table → ((a : A) (rest : List ℕ) → IsStop rest → choice_at table (name a ++ rest) ≡ Some (a, rest)) → Reads name (λ _. ⊤) (choice_at table)
choice_reads name table is first = record { again = λ a rest fits stop. first a rest stop; takes = λ bytes rest a e. (choice_takes name table is bytes rest a e, tt) }

-- the same of words in two tables, whose values are in range
abbrev pub IsTableFor : {A : Type 0} → (A → List ℕ) → (A → Type 0) → List (List ℕ × A) → Type 0
IsTableFor name Fits table = AllByRecursion (λ (w : List ℕ × _). (w.0 ≡ name w.1) × Fits w.1) table

choice_fits : {A : Type 0} (name : A → List ℕ) (Fits : A → Type 0) (table : List (List ℕ × A)) → IsTableFor name Fits table → (bytes rest : List ℕ) (a : A)
    → choice_at table bytes ≡ Some (a, rest) → (bytes ≡ name a ++ rest) × Fits a
choice_fits name Fits [] is bytes rest a e = absurd (none-some (a, rest) e)
choice_fits name Fits (w ∷ ws) is bytes rest a e =
    let split : (o : Option (List ℕ)) → stripped w.0 bytes ≡ o → or_else w.1 (choice_at ws bytes) o ≡ Some (a, rest) → (bytes ≡ name a ++ rest) × Fits a =
    elim [
      | None ↦ λ q h. choice_fits name Fits ws is.1 bytes rest a h
      | Some behind ↦ λ q h.
          let same = some_pair_parts w.1 a behind rest h in
          (stripped_takes w.0 bytes behind q ∙ ap (λ (t : List ℕ). t ++ behind) is.0.0 ∙ (λ i. name (same.0 i) ++ same.1 i), subst Fits same.0 is.0.1)
    ] in
    split (stripped w.0 bytes) refl e

first_takes : {A : Type 0} (P : Type 0) (o other : Option (A × List ℕ)) (x : A × List ℕ) → (o ≡ Some x → P) → (other ≡ Some x → P) → first_of o other ≡ Some x → P
first_takes P None other x here there e = there e
first_takes P (Some y) other x here there e = here e

pub either_reads : {A : Type 0} (name : A → List ℕ) (Fits : A → Type 0) (first second : List (List ℕ × A)) → IsTableFor name Fits first → IsTableFor name Fits second
    → ((a : A) (rest : List ℕ) → Fits a → IsStop rest → either_at (choice_at first) (choice_at second) (name a ++ rest) ≡ Some (a, rest))
    → Reads name Fits (either_at (choice_at first) (choice_at second))
either_reads name Fits first second is are again = record {
  again = again;
  takes = λ bytes rest a e. first_takes ((bytes ≡ name a ++ rest) × Fits a) (choice_at first bytes) (choice_at second bytes) (a, rest)
      (choice_fits name Fits first is bytes rest a) (choice_fits name Fits second are bytes rest a) e;
}
