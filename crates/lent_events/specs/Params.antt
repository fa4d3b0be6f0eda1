-- The parameters of a thin call beside the record, whatever they are: each is handed on to the callee as it is, or, where it is a `&mut`
-- slice, lent again in a local of its own. What a walk does with a list of locals is said once here, by recursion on the list.
-- Assumes nothing.
use Rattle.std.specs.Prelude.{◌≡◌, ℕ, zero, suc, ◌<◌, ◌^◌, List, [], ◌∷◌, T as Holds, get_or}
use seplogic.Ra.Ura.{Ura}
use base.Fraction.{full_share}
use mir.Syntax.{Ty, Lifetime, Width, Local, Opd as Operand, Body, erased, mut, ty_int, ty_ref, local, value_local, place, field, deref, copy, addr_of, aggregate, assign, seq}
use mir.Val.{Val, WT, has_ty, vptr}
use base.Fml.{ftrue, fat, froom, fdies}
use types.Kit.{Item, ‵, ◌⊛◌}
use denote.Slice.{slice_val}
use Rattle.walks.specs.Steps.{slice_ty}

-- a parameter of a thin call beside the record: handed on as it is, or a `&mut` slice that is lent again
pub data Kind : Type 0 where
  passed : Ty → Kind
  again : Lifetime → Width → Kind

-- the types of the parameters; and of the fresh locals for those lent again, a pointer and a slice each
abbrev pub type_of : Kind → Ty
type_of (passed τ) = τ
type_of (again ℓ w) = slice_ty ℓ mut w

abbrev pub param_types : List Kind → List Ty
param_types [] = []
param_types (k ∷ ks) = type_of k ∷ param_types ks

abbrev pub fresh_types : List Kind → List Ty
fresh_types [] = []
fresh_types (passed τ ∷ ks) = fresh_types ks
fresh_types (again ℓ w ∷ ks) = ty_ref erased mut (ty_int w) ∷ slice_ty erased mut w ∷ fresh_types ks

abbrev pub locals : List Ty → List Local
locals [] = []
locals (τ ∷ τs) = local τ value_local ∷ locals τs

-- the index behind these locals, counted from i
abbrev pub past : List Ty → ℕ → ℕ
past [] i = i
past (τ ∷ τs) i = suc (past τs i)

-- the code: the slices are lent again, the parameters being locals from i on and the fresh ones from t on; and what the callee is then
-- passed
abbrev pub lends : ℕ → ℕ → List Kind → Body → Body
lends i t [] rest = rest
lends i t (passed τ ∷ ks) rest = lends (suc i) t ks rest
lends i t (again ℓ w ∷ ks) rest =
    seq (assign (place t []) (addr_of (place i (field 0 ∷ deref (ty_int w) ∷ [])))) (seq (assign (place (suc t) []) (aggregate (copy (place t []) ∷ copy (place i (field 1 ∷ [])) ∷ []))) (lends (suc i) (suc (suc t)) ks rest))

abbrev pub operands : ℕ → ℕ → List Kind → List Operand
operands i t [] = []
operands i t (passed τ ∷ ks) = copy (place i []) ∷ operands (suc i) t ks
operands i t (again ℓ w ∷ ks) = copy (place (suc t) []) ∷ operands (suc i) (suc (suc t)) ks

-- what is passed: a value of the type, or the place of a slice and how many numbers it has
abbrev pub Passed : Kind → Type 0
Passed (passed τ) = (v : Val) × (Holds (has_ty τ v) × WT v)
Passed (again ℓ w) = (p : ℕ × ℕ) × (n : ℕ) × (n < 2 ^ 64)

abbrev pub value : (k : Kind) → Passed k → Val
value (passed τ) x = x.0
value (again ℓ w) x = slice_val x.0 x.1

abbrev pub Arguments : List Kind → Type 0
Arguments [] = Unit {0}
Arguments (k ∷ ks) = Passed k × Arguments ks

-- a value for each of some types: of the parameters, and of the fresh locals
abbrev pub Values : List Ty → Type 0
Values [] = Unit {0}
Values (τ ∷ τs) = Val × Values τs

abbrev pub param_values : (ks : List Kind) → Arguments ks → Values (param_types ks)
param_values [] xs = tt
param_values (k ∷ ks) xs = (value k xs.0, param_values ks xs.1)

abbrev pub fresh_values : (ks : List Kind) → Arguments ks → Values (fresh_types ks)
fresh_values [] xs = tt
fresh_values (passed τ ∷ ks) xs = fresh_values ks xs.1
fresh_values (again ℓ w ∷ ks) xs = (vptr xs.0.0.0 xs.0.0.1, (slice_val xs.0.0 xs.0.1, fresh_values ks xs.1))

abbrev pub listed : (τs : List Ty) → Values τs → List Val
listed [] us = []
listed (τ ∷ τs) us = us.0 ∷ listed τs us.1

abbrev pub passed_values : (ks : List Kind) → Arguments ks → List Val
passed_values ks xs = listed (param_types ks) (param_values ks xs)

-- the locals' blocks, and their part of an environment
abbrev pub Blocks : List Ty → Type 0
Blocks [] = Unit {0}
Blocks (τ ∷ τs) = ℕ × Blocks τs

abbrev pub env : (τs : List Ty) → Blocks τs → List (Ty × ℕ)
env [] bs = []
env (τ ∷ τs) bs = (τ, bs.0) ∷ env τs bs.1

-- an environment has these locals from i on
abbrev pub At : List (Ty × ℕ) → (Ty × ℕ) → ℕ → List (Ty × ℕ) → Type 0
At E none i [] = Unit {0}
At E none i (x ∷ D) = (get_or E i none ≡ x) × At E none (suc i) D

-- the locals as entries of a context: room, what they hold, and what lets them be freed
module _ {M : Type 1} (𝓤 : Ura M) where
  abbrev pub rooms : (τs : List Ty) → Blocks τs → Item 𝓤
  rooms [] bs = ‵ ftrue
  rooms (τ ∷ τs) bs = ‵ (froom τ bs.0 zero) ⊛ rooms τs bs.1

  abbrev pub cells : (τs : List Ty) → Blocks τs → Values τs → Item 𝓤
  cells [] bs us = ‵ ftrue
  cells (τ ∷ τs) bs us = ‵ (fat full_share τ bs.0 zero us.0) ⊛ cells τs bs.1 us.1

  abbrev pub ends : (τs : List Ty) → Blocks τs → Item 𝓤
  ends [] bs = ‵ ftrue
  ends (τ ∷ τs) bs = ‵ (fdies τ bs.0) ⊛ ends τs bs.1
