-- The numbers as src/tokenizer/mod.rs writes them match exactly the texts of the shapes in Tokens.antt: both are a digit and then
-- digits and underscores in any order, which the Rust cuts into groups that each begin with a digit. Assumes nothing.
use Rattle.std.specs.Prelude.{ℕ, ◌≡◌, refl, true, List, [], ◌∷◌, ◌++◌}
use Prim.Native.String.{String}
use Rattle.std.proofs.Common.{sym, ap, ◌∙◌, subst, ⊎_elim, append-nil, append_assoc}
use Rattle.std.proofs.Math.Path.{fun_ext}
use Rattle.std.proofs.Math.Bool.{or_assoc, or_self}
use mathlib.Core.Logic.Iff
use Rattle.patterns.specs.Utf8.{Class}
use Rattle.patterns.specs.Pattern.{Pat, byte, seq, alt, star, OneByte, Split, Many, done, again, Matches, plus, optional, row, longest}
use Rattle.patterns.proofs.Bools.{or_first, or_second, or_cases}
use Rattle.patterns.specs.Meaning.{Same}
use Rattle.patterns.proofs.Meaning.{split_map, split_means, sum_means, follow_means, follow_same}
use Rattle.patterns.proofs.Longest.{same_longest}
use Rattle.tokens.specs.Tokens.{dec, oct, hex, underscore, or_underscore, text, is, number, float, integer}
use Rattle.tokens.specs.Shapes.{group, rust_float, rust_integer, rust_number}

-- Texts and rows of texts.

front_map : {P P' Q : List ℕ → Type 0} → ((u : List ℕ) → P u → P' u) → (u : List ℕ) → Split P Q u → Split P' Q u
front_map f = split_map f (λ t n. n)

back_map : {P Q Q' : List ℕ → Type 0} → ((u : List ℕ) → Q u → Q' u) → (u : List ℕ) → Split P Q u → Split P Q' u
back_map f = split_map (λ s m. m) f

-- a text before a row is a row
onto_many : {P : List ℕ → Type 0} (u : List ℕ) → Split P (Many P) u → Many P u
onto_many u m = again m.front m.back m.joined m.first m.second

-- induction on a row: what holds of the empty text, and still holds with a text of P put before, holds of each row of P
many_into : {P Q : List ℕ → Type 0} → Q [] → ((u : List ℕ) → Split P Q u → Q u) → (u : List ℕ) → Many P u → Q u
many_into z f u (done e) = rw e z
many_into z f u (again s t e m n) = f u (record { front = s; back = t; joined = e; first = m; second = many_into z f t n })

many_map : {P Q : List ℕ → Type 0} → ((u : List ℕ) → P u → Q u) → (u : List ℕ) → Many P u → Many Q u
many_map f = many_into (done refl) (λ u m. onto_many u (front_map f u m))

many_append : {P : List ℕ → Type 0} (u w : List ℕ) → Many P u → Many P w → Many P (u ++ w)
many_append u w (done e) n = rw e n
many_append u w (again s t e m k) n = again s (t ++ w) (ap (λ (l : List ℕ). l ++ w) e ∙ append_assoc s t w) m (many_append t w k n)

-- the byte of m, where it is in another class too
same_byte : {q q' : Class} {u : List ℕ} (m : OneByte q u) → q' m.value ≡ true → OneByte q' u
same_byte m e = record { value = m.value; read = m.read; fits = e }

-- The digits are those of p.
module _ (p : Class) where
  -- digits and underscores in any order
  abbrev mixed : Pat
  mixed = star (byte (or_underscore p))

  -- the same, cut before each digit: underscores and then groups
  abbrev rest : Pat
  rest = seq (star (byte underscore)) (star (group p))

  -- From groups to digits and underscores.

  digit_in : (u : List ℕ) → OneByte p u → OneByte (or_underscore p) u
  digit_in u m = same_byte m (or_first (p m.value) (underscore m.value) m.fits)

  underscore_in : (u : List ℕ) → OneByte underscore u → OneByte (or_underscore p) u
  underscore_in u m = same_byte m (or_second (p m.value) (underscore m.value) m.fits)

  -- a number goes on over digits and underscores
  longer : (u : List ℕ) → Matches (seq (number p) mixed) u → Matches (number p) u
  longer u m = back_map (λ t n. rw n.joined (many_append n.front n.back n.first n.second)) u ((follow_means (number p) mixed u).1 m)

  group_number : (u : List ℕ) → Matches (group p) u → Matches (number p) u
  group_number u m = longer u (split_map (back_map (many_map digit_in)) (many_map underscore_in) u m)

  groups_mixed : (u : List ℕ) → Matches (star (group p)) u → Matches mixed u
  groups_mixed = many_into (done refl) (λ u m. onto_many u (front_map digit_in u (longer u (front_map group_number u m))))

  -- From digits and underscores to groups.

  digit_group : (u : List ℕ) → Matches (seq (byte p) (star (byte underscore))) u → Matches (group p) u
  digit_group = front_map (λ s m. record { front = s; back = []; joined = sym (append-nil s); first = m; second = done refl })

  -- a digit takes the underscores that follow into its group
  regroup : (u : List ℕ) → Matches (seq (byte p) rest) u → Matches (rust_number p) u
  regroup u m = front_map digit_group u ((follow_means (seq (byte p) (star (byte underscore))) (star (group p)) u).0 m)

  groups_rest : (u : List ℕ) → Matches (star (group p)) u → Matches rest u
  groups_rest u m = record { front = []; back = u; joined = refl; first = done refl; second = m }

  -- one byte more: a digit begins a group, an underscore joins the underscores at the front
  byte_rest : (u : List ℕ) → Matches (seq (byte (or_underscore p)) rest) u → Matches rest u
  byte_rest u m =
      ⊎_elim (λ e. groups_rest u (onto_many u (regroup u (before (same_byte m.first e)))))
      (λ e. front_map onto_many u ((follow_means (plus (byte underscore)) (star (group p)) u).0 (before (same_byte m.first e))))
      (or_cases (p m.first.value) (underscore m.first.value) m.first.fits)
    where
      before : {q : Class} → OneByte q m.front → Matches (seq (byte q) rest) u
      before k = record { front = m.front; back = m.back; joined = m.joined; first = k; second = m.second }

  mixed_rest : (u : List ℕ) → Matches mixed u → Matches rest u
  mixed_rest = many_into (groups_rest [] (done refl)) byte_rest

pub number_same : (p : Class) → Same (number p) (rust_number p)
number_same p u = (λ m. regroup p u (back_map (mixed_rest p) u m), λ m. longer p u (split_map (group_number p) (groups_mixed p) u m))

-- The part after the dot: its digits hold the underscore, so that adding it again changes nothing.
pub plus_same : (p : Class) → Same (plus (byte (or_underscore p))) (rust_number (or_underscore p))
plus_same p =
    let q : Class = or_underscore p in
    subst (λ (r : Class). Same (seq (byte q) (star (byte r))) (rust_number q)) (fun_ext (λ v. rw (or_assoc, or_self))) (number_same q)

pub float_same : Same float rust_float
float_same =
    follow_same (number dec) (rust_number dec) (seq (is ".") (plus (byte (or_underscore dec)))) (seq (is ".") (rust_number (or_underscore dec)))
    (number_same dec) (split_means (λ u. Iff.rfl) (plus_same dec))

pub integer_same : Same integer rust_integer
integer_same u =
    sum_means (prefixed "0x" hex u)
    (sum_means (prefixed "0o" oct u) (follow_same (number dec) (rust_number dec) unit unit (number_same dec) (λ t. Iff.rfl) u))
  where
    prefixed : (s : String) (p : Class) → Same (row (text s ∷ number p ∷ [])) (row (text s ∷ rust_number p ∷ []))
    prefixed s p = follow_same (text s) (text s) (number p) (rust_number p) (λ t. Iff.rfl) (number_same p)

    unit : Pat
    unit = optional (alt (text "KB") (text "MB"))

pub float_longest : (s : List ℕ) → longest float s ≡ longest rust_float s
float_longest = same_longest float rust_float float_same

pub integer_longest : (s : List ℕ) → longest integer s ≡ longest rust_integer s
integer_longest = same_longest integer rust_integer integer_same
