-- Steps that every walk of code by hand can take beside the kit's: a local's place, and a local that is freed wherever its two entries
-- stand. Each is the kit's rule for one statement, at an environment or a context that is known only in part. Assumes nothing.
use Rattle.std.specs.Prelude.{◌≡◌, ℕ, zero, List, ◌∷◌, get_or}
use Rattle.std.proofs.Common.{sym, subst}
use seplogic.Ra.Ura.{Ura}
use base.Fraction.{full_share}
use mir.Syntax.{Ty, Step as PStep, place}
use mir.Val.{Val}
use base.Logic.{ent, sep, via, mono_l, mono_r, assoc'}
use base.Fml.{fdies}
use prog.Wp.{Env, Spot, no_local, walk}
use types.Logic.{Logic}
use types.Kit.{Item, ‵, mean, ⋆, nth, del, pull, Goal, frees, Step, step}
use types.Run.{Walks, Finds}
use Rattle.walks.specs.Steps.{cell}

module _ {M : Type 1} {𝓤 : Ura M} {𝓛 : Logic 𝓤} {K : Type 0} {Γ : List (Item 𝓤)} where
  -- the place of a local that the environment has at an index
  open 𝓛 use {H}

  pub at_local : K → {E : Env 𝓤 H} {i l : ℕ} {τ : Ty} {st : List PStep} {sp : Spot 𝓤 H} → get_or E i (no_local 𝓤 H) ≡ (τ, l) → Walks K 𝓛 Γ E (τ, l, zero) st sp → Finds K 𝓛 Γ E (place i st) sp
  at_local t {E} {i} {l} {τ} {st} e w = record {
    go = λ Kt h. subst (λ (x : Ty × ℕ). ent 𝓤 (⋆ 𝓛 Γ) (walk 𝓤 H E (x.0, x.1, zero) st Kt)) (sym e) (w.go Kt h);
  }

  -- a local is freed, whatever it holds: its cell stands at m, and what lets it be freed at n of the rest
  pub gone : K → (m : ℕ) {τ : Ty} {l : ℕ} {v : Val} {E : Env 𝓤 H} {G : Goal 𝓤 H} → nth 𝓛 m Γ ≡ cell τ l v → (n : ℕ) → nth 𝓛 n (del 𝓛 m Γ) ≡ ‵ (fdies τ l)
      → Step K 𝓛 (del 𝓛 n (del 𝓛 m Γ)) (frees E G) Γ (frees ((τ, l) ∷ E) G)
  gone t m {τ} {l} {v} e n d = step (λ s.
      let Δ = del 𝓛 m Γ in
      let Θ = del 𝓛 n Δ in
      record {
        prf = via 𝓤 (sep 𝓤 (H.at full_share τ l zero v) (⋆ 𝓛 Δ)) (subst (λ (j : Item 𝓤). ent 𝓤 (⋆ 𝓛 Γ) (sep 𝓤 (mean 𝓛 j) (⋆ 𝓛 Δ))) e (pull 𝓛 m Γ))
            (via 𝓤 (sep 𝓤 (H.at full_share τ l zero v) (sep 𝓤 (H.dies τ l) (⋆ 𝓛 Θ)))
            (mono_r 𝓤 (H.at full_share τ l zero v) (subst (λ (j : Item 𝓤). ent 𝓤 (⋆ 𝓛 Δ) (sep 𝓤 (mean 𝓛 j) (⋆ 𝓛 Θ))) d (pull 𝓛 n Δ)))
            (via 𝓤 (sep 𝓤 (H.room τ l zero) (sep 𝓤 (H.dies τ l) (⋆ 𝓛 Θ))) (mono_l 𝓤 (sep 𝓤 (H.dies τ l) (⋆ 𝓛 Θ)) (𝓛.laws.at_room τ l zero v))
            (via 𝓤 (sep 𝓤 (sep 𝓤 (H.room τ l zero) (H.dies τ l)) (⋆ 𝓛 Θ)) (assoc' 𝓤 (H.room τ l zero) (H.dies τ l) (⋆ 𝓛 Θ))
            (mono_r 𝓤 (sep 𝓤 (H.room τ l zero) (H.dies τ l)) s.prf))));
      })
