-- Steps that every walk of code by hand can take beside the kit's: a local's place, and a local that is freed wherever its two entries
-- stand. Each is the kit's rule for one statement, at an environment or a context that is known only in part. Assumes nothing.
use Rattle.std.specs.Prelude.{ℕ, zero, List, [], ◌∷◌}
use seplogic.Ra.Ura.{Ura}
use base.Fraction.{full_share}
use mir.Syntax.{Ty, Lifetime, Mutability, Width, w64, ty_int, ty_ref, ty_struct, tcons, tnil}
use mir.Val.{Val}
use base.Fml.{fat, froom}
use types.Logic.{Logic}
use types.Kit.{Item, ‵, Goal, Go, Seq}

-- a slice's type, as MIR writes it
abbrev pub slice_ty : Lifetime → Mutability → Width → Ty
slice_ty ℓ m w = ty_struct (38 ∷ 91 ∷ 93 ∷ []) (tcons (ty_ref ℓ m (ty_int w)) (tcons (ty_int w64) tnil))

-- a local that holds a value, and one that holds none yet
module _ {M : Type 1} {𝓤 : Ura M} where
  abbrev pub cell : Ty → ℕ → Val → Item 𝓤
  cell τ l v = ‵ (fat full_share τ l zero v)

  abbrev pub room : Ty → ℕ → Item 𝓤
  room τ l = ‵ (froom τ l zero)

-- A step holds for any marker K; one that is proved by a script, whose marker is `Go`, goes there and back.
module _ {M : Type 1} {𝓤 : Ura M} {𝓛 : Logic 𝓤} {K : Type 0} {Γ : List (Item 𝓤)} {G : Goal 𝓤 𝓛.H} where
  abbrev pub script : Seq (Go {0}) 𝓛 Γ G → Seq K 𝓛 Γ G
  script s = record { prf = s.prf }

  abbrev pub goes_on : Seq K 𝓛 Γ G → Seq (Go {0}) 𝓛 Γ G
  goes_on s = record { prf = s.prf }
