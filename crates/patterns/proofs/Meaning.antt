-- What the computed forms of a pattern match: `either` what `alt` does, `follow` what `seq` does, `nullable` says whether the empty
-- text is matched, and `deriv b r` matches s exactly where r matches b ∷ s. Each by cases on the pattern. Assumes nothing.
use Rattle.std.specs.Prelude.{ℕ, zero, suc, ◌≡◌, refl, Bool, true, false, cond, ◌↔◌, ◌⊎◌, List, [], ◌∷◌, ◌++◌, length, Option, None}
use Rattle.std.proofs.Common.{sym, ap, ◌∙◌, inl, inr, ⊎_elim, append_assoc, arith}
use Rattle.std.proofs.lemmas.Bool.{false≢true}
use mathlib.Core.Logic.Iff
use Rattle.patterns.specs.declared.Char.{Char}
use Rattle.patterns.specs.declared.Lead.{Lead}
use Rattle.patterns.specs.declared.Lead.TheVariants.{Alone, More, Bad}
use Rattle.patterns.specs.Utf8.{Class, between, lead, join, longer, finish, after_lead, decode, whole}
use Rattle.std.proofs.lemmas.Option.{none-some}
use Rattle.patterns.proofs.Utf8Laws.{parts, shorter}
use Rattle.patterns.specs.Pattern.{Pat, nothing, empty, byte, char, part, seq, alt, star, OneByte, OneChar, Split, Many, done, again, Matches, follow}
use Rattle.patterns.specs.Pattern.{nullable, is_nothing, either, if_in, char_after, part_after, deriv}
use Rattle.patterns.proofs.Bools.{and_both, and_first, and_second, or_first, or_second, or_cases}
use Rattle.patterns.specs.Meaning.{Same}

-- Parts of a text may be exchanged for what means the same.

-- one way
pub split_map : {P P' Q Q' : List ℕ → Type 0} → ((u : List ℕ) → P u → P' u) → ((u : List ℕ) → Q u → Q' u) → (u : List ℕ) → Split P Q u → Split P' Q' u
split_map f g u m = record { front = m.front; back = m.back; joined = m.joined; first = f m.front m.first; second = g m.back m.second }

pub split_means : {P P' Q Q' : List ℕ → Type 0} → ((u : List ℕ) → P u ↔ P' u) → ((u : List ℕ) → Q u ↔ Q' u) → (u : List ℕ) → Split P Q u ↔ Split P' Q' u
split_means f g u = (split_map (λ s. (f s).0) (λ t. (g t).0) u, split_map (λ s. (f s).1) (λ t. (g t).1) u)

pub sum_means : {A B C D : Type 0} → A ↔ C → B ↔ D → (A ⊎ B) ↔ (C ⊎ D)
sum_means f g = (⊎_elim (λ a. inl (f.0 a)) (λ b. inr (g.0 b)), ⊎_elim (λ c. inl (f.1 c)) (λ d. inr (g.1 d)))

-- The computed forms of `alt` and `seq`.

pub none_of_nothing : (a : Pat) (u : List ℕ) → is_nothing a ≡ true → Matches a u → ⊥
none_of_nothing nothing u e m = m
none_of_nothing empty u e m = false≢true e
none_of_nothing (byte p) u e m = false≢true e
none_of_nothing (char p) u e m = false≢true e
none_of_nothing (part p low high k bits) u e m = false≢true e
none_of_nothing (seq a r) u e m = false≢true e
none_of_nothing (alt a r) u e m = false≢true e
none_of_nothing (star a) u e m = false≢true e

pub either_means : (a r : Pat) (u : List ℕ) → Matches (either a r) u ↔ (Matches a u ⊎ Matches r u)
either_means a r u = go (is_nothing a) (is_nothing r) refl refl
  where
    go : (t t' : Bool) → is_nothing a ≡ t → is_nothing r ≡ t' → Matches (cond t r (cond t' a (alt a r))) u ↔ (Matches a u ⊎ Matches r u)
    go true t' e f = (inr, ⊎_elim (λ m. absurd (none_of_nothing a u e m)) (λ m. m))
    go false true e f = (inl, ⊎_elim (λ m. m) (λ m. absurd (none_of_nothing r u f m)))
    go false false e f = Iff.rfl

pub follow_means : (a r : Pat) (u : List ℕ) → Matches (follow a r) u ↔ Matches (seq a r) u
follow_means nothing r u = (λ m. absurd m, λ m. m.first)
follow_means empty r u = (
  λ m. record { front = []; back = u; joined = refl; first = refl; second = m },
  λ m. rw (m.joined, m.first) m.second,
)
follow_means (byte p) r u = Iff.rfl
follow_means (char p) r u = Iff.rfl
follow_means (part p low high k bits) r u = Iff.rfl
follow_means (seq a b) r u = (
  λ m.
      let n : Matches (seq b r) m.back = (follow_means b r m.back).0 m.second in
      record {
        front = m.front ++ n.front;
        back = n.back;
        joined = m.joined ∙ ap (λ (l : List ℕ). m.front ++ l) n.joined ∙ sym (append_assoc m.front n.front n.back);
        first = record { front = m.front; back = n.front; joined = refl; first = m.first; second = n.first };
        second = n.second;
      },
  λ m.
      record {
        front = m.first.front;
        back = m.first.back ++ m.back;
        joined = m.joined ∙ ap (λ (l : List ℕ). l ++ m.back) m.first.joined ∙ append_assoc m.first.front m.first.back m.back;
        first = m.first.first;
        second = (follow_means b r (m.first.back ++ m.back)).1 (record { front = m.first.back; back = m.back; joined = refl; first = m.first.second; second = m.second });
      },
)
follow_means (alt a b) r u = Iff.rfl
follow_means (star a) r u = Iff.rfl

pub follow_same : (a a' r r' : Pat) → Same a a' → Same r r' → Same (follow a r) (follow a' r')
follow_same a a' r r' f g u = Iff.trans (follow_means a r u) (Iff.trans (split_means f g u) (Iff.symm (follow_means a' r' u)))

-- The empty text.

front_nil : (s t : List ℕ) → [] ≡ s ++ t → s ≡ []
front_nil [] t e = refl
front_nil (x ∷ s) t e = cc

back_nil : (s t : List ℕ) → [] ≡ s ++ t → t ≡ []
back_nil [] t e = sym e
back_nil (x ∷ s) t e = cc

no_cons : (b : ℕ) (s : List ℕ) → [] ≡ b ∷ s → ⊥
no_cons b s e = let z : ◌≡◌ {A = ℕ} 0 1 = cc in omega arith

no_char : (p : Class) (n : ℕ) → OneChar p None n → ⊥
no_char p n m = none-some _ m.read

pub null_means : (r : Pat) → nullable r ≡ true ↔ Matches r []
unfolding decode finish
null_means nothing = (false≢true, λ m. absurd m)
null_means empty = (λ e. refl, λ m. refl)
null_means (byte p) = (λ e. absurd (false≢true e), λ m. absurd (no_cons m.value [] m.read))
null_means (char p) = (λ e. absurd (false≢true e), λ m. absurd (no_char p 0 m))
null_means (part p low high k bits) = (λ e. absurd (false≢true e), λ m. absurd (no_char p 0 m))
null_means (seq a r) = (
  λ e. record { front = []; back = []; joined = refl; first = (null_means a).0 (and_first (nullable a) (nullable r) e); second = (null_means r).0 (and_second (nullable a) (nullable r) e) },
  λ m.
      and_both (nullable a) (nullable r) ((null_means a).1 (rw (front_nil m.front m.back m.joined) at m.first))
      ((null_means r).1 (rw (back_nil m.front m.back m.joined) at m.second)),
)
null_means (alt a r) = (
  λ e. ⊎_elim (λ f. inl ((null_means a).0 f)) (λ f. inr ((null_means r).0 f)) (or_cases (nullable a) (nullable r) e),
  ⊎_elim (λ m. or_first (nullable a) (nullable r) ((null_means a).1 m)) (λ m. or_second (nullable a) (nullable r) ((null_means r).1 m)),
)
null_means (star a) = (λ e. done refl, λ m. refl)

-- One byte off a class, or off a character.

if_means : (t : Bool) (u : List ℕ) → Matches (if_in t) u ↔ ((u ≡ []) × (t ≡ true))
if_means true u = (λ m. (m, refl), λ m. m.0)
if_means false u = (λ m. absurd m, λ m. false≢true m.1)

byte_means : (p : Class) (b : ℕ) (s : List ℕ) → Matches (if_in (p b)) s ↔ OneByte p (b ∷ s)
byte_means p b s = (
  λ m. let h : (s ≡ []) × (p b ≡ true) = (if_means (p b) s).0 m in record { value = b; read = ap (λ (l : List ℕ). b ∷ l) h.0; fits = h.1 },
  λ m. let e : b ≡ m.value = cc m.read in let f : s ≡ [] = cc m.read in (if_means (p b) s).1 (f, ap p e ∙ m.fits),
)

length_nil : (u : List ℕ) → length u ≡ 0 → u ≡ []
length_nil [] e = refl
length_nil (x ∷ u) e = absurd (omega arith)

last_means : (p : Class) (v : ℕ) (s : List ℕ) → Matches (if_in (p v)) s ↔ OneChar p (whole v 1) (suc (length s))
last_means p v s = (
  λ m.
      let h : (s ≡ []) × (p v ≡ true) = (if_means (p v) s).0 m in
      record { value = v; read = ap (λ (l : List ℕ). whole v (suc (length l))) (sym h.0); fits = h.1 },
  λ m.
      let (e, f) = parts m.read in
      (if_means (p v) s).1 (length_nil s (omega arith), ap p e ∙ m.fits),
)

longer_means : (p : Class) (f : Option Char) (n : ℕ) → OneChar p f n ↔ OneChar p (longer f) (suc n)
longer_means p f n = (
  λ m. record { value = m.value; read = ap longer m.read; fits = m.fits },
  λ m.
      let s = shorter f m.read in
      let e : s.0 ≡ n = omega (arith, s.2) in
      record { value = m.value; read = s.1 ∙ ap (whole m.value) e; fits = m.fits },
)

none_means : (p : Class) (n : ℕ) → ⊥ ↔ OneChar p None n
none_means p n = (λ m. absurd m, no_char p n)

lead_means : (p : Class) (b : ℕ) (l : Lead) (s : List ℕ) → Matches (char_after p b l) s ↔ OneChar p (after_lead b l s) (suc (length s))
unfolding after_lead
lead_means p b Alone s = last_means p b s
lead_means p b (More low high k bits) s = longer_means p (finish low high k bits s) (length s)
lead_means p b Bad s = none_means p (suc (length s))

part_means : (p : Class) (low high k bits b : ℕ) (s : List ℕ)
    → Matches (part_after (between low high b) p k (join bits b)) s ↔ OneChar p (finish low high k bits (b ∷ s)) (suc (length s))
unfolding finish
part_means p low high zero bits b s = go (between low high b) (join bits b)
  where
    go : (t : Bool) (w : ℕ) → Matches (part_after t p 0 w) s ↔ OneChar p (cond t (whole w 1) None) (suc (length s))
    go true w = last_means p w s
    go false w = none_means p (suc (length s))
part_means p low high (suc k) bits b s = go (between low high b) (join bits b)
  where
    go : (t : Bool) (w : ℕ) → Matches (part_after t p (suc k) w) s ↔ OneChar p (cond t (longer (finish 0x80 0xBF k w s)) None) (suc (length s))
    go true w = longer_means p (finish 0x80 0xBF k w s) (length s)
    go false w = none_means p (suc (length s))

-- One byte off a sequence: the first part has it, or is empty and the second has it.
split_cons : {P Q : List ℕ → Type 0} (b : ℕ) (s : List ℕ) → Split P Q (b ∷ s) ↔ (Split (λ u. P (b ∷ u)) Q s ⊎ (P [] × Q (b ∷ s)))
split_cons {P} {Q} b s = (
  λ m. take_off m.front m.back m.joined m.first m.second,
  ⊎_elim put_on (λ m. record { front = []; back = b ∷ s; joined = refl; first = m.0; second = m.1 }),
)
  where
    take_off : (u w : List ℕ) → b ∷ s ≡ u ++ w → P u → Q w → Split (λ u. P (b ∷ u)) Q s ⊎ (P [] × Q (b ∷ s))
    take_off [] w e m n = inr (m, rw e n)
    take_off (c ∷ u) w e m n =
        let f : b ≡ c = cc in
        let g : s ≡ u ++ w = cc in
        inl (record { front = u; back = w; joined = g; first = rw f m; second = n })

    put_on : Split (λ u. P (b ∷ u)) Q s → Split P Q (b ∷ s)
    put_on m = record { front = b ∷ m.front; back = m.back; joined = ap (λ (l : List ℕ). b ∷ l) m.joined; first = m.first; second = m.second }

-- One byte off a row of texts: the first that is not empty has it.
many_cons : {P : List ℕ → Type 0} (b : ℕ) (s : List ℕ) → Many P (b ∷ s) ↔ Split (λ u. P (b ∷ u)) (Many P) s
many_cons {P} b s = (take_off (b ∷ s) refl, λ m. again (b ∷ m.front) m.back (ap (λ (l : List ℕ). b ∷ l) m.joined) m.first m.second)
  where
    take_off : (w : List ℕ) → w ≡ b ∷ s → Many P w → Split (λ u. P (b ∷ u)) (Many P) s
    take_off w e (done f) = absurd (no_cons b s (sym f ∙ e))
    take_off w e (again [] t f m n) = take_off t (sym f ∙ e) n
    take_off w e (again (c ∷ u) t f m n) =
        let g : c ∷ (u ++ t) ≡ b ∷ s = sym f ∙ e in
        let h : b ≡ c = cc in
        let k : s ≡ u ++ t = cc in
        record { front = u; back = t; joined = k; first = rw h m; second = n }

seq_means : (a r d e : Pat) (b : ℕ) (s : List ℕ) → ((u : List ℕ) → Matches d u ↔ Matches a (b ∷ u)) → Matches e s ↔ Matches r (b ∷ s)
    → (t : Bool) → nullable a ≡ t → Matches (elim t [ true ↦ either (follow d r) e | false ↦ follow d r ]) s ↔ Matches (seq a r) (b ∷ s)
seq_means a r d e b s f g = go
  where
    first : Matches (follow d r) s ↔ Split (λ u. Matches a (b ∷ u)) (λ u. Matches r u) s
    first = Iff.trans (follow_means d r s) (split_means f (λ u. Iff.rfl) s)

    go : (t : Bool) → nullable a ≡ t → Matches (elim t [ true ↦ either (follow d r) e | false ↦ follow d r ]) s ↔ Matches (seq a r) (b ∷ s)
    go true q =
        Iff.trans (either_means (follow d r) e s)
        (Iff.trans (sum_means first (λ m. ((null_means a).0 q, g.0 m), λ m. g.1 m.1)) (Iff.symm (split_cons b s)))
    go false q = (
      λ m. (split_cons b s).1 (inl (first.0 m)),
      λ m. first.1 (⊎_elim (λ n. n) (λ n. absurd (false≢true (sym q ∙ (null_means a).1 n.0))) ((split_cons b s).0 m)),
    )

pub deriv_means : (r : Pat) (b : ℕ) (s : List ℕ) → Matches (deriv b r) s ↔ Matches r (b ∷ s)
unfolding deriv decode
deriv_means nothing b s = Iff.rfl
deriv_means empty b s = (λ m. absurd m, λ m. no_cons b s (sym m))
deriv_means (byte p) b s = byte_means p b s
deriv_means (char p) b s = lead_means p b (lead b) s
deriv_means (part p low high k bits) b s = part_means p low high k bits b s
deriv_means (seq a r) b s = seq_means a r (deriv b a) (deriv b r) b s (λ u. deriv_means a b u) (deriv_means r b s) (nullable a) refl
deriv_means (alt a r) b s = Iff.trans (either_means (deriv b a) (deriv b r) s) (sum_means (deriv_means a b s) (deriv_means r b s))
deriv_means (star a) b s =
    Iff.trans (follow_means (deriv b a) (star a) s)
    (Iff.trans (split_means (λ u. deriv_means a b u) (λ u. Iff.rfl) s) (Iff.symm (many_cons b s)))
