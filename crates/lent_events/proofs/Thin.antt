-- The walk of a thin call: the lent record is copied out, the covered call runs on the copy and on the other parameters, the record that it
-- gave is stored, whatever it answered. So one walk serves all nine calls, whatever the other parameters are. Assumes nothing.
use Rattle.std.specs.Prelude.{◌≡◌, refl, ℕ, suc, List, [], ◌∷◌, ◌++◌, get_or}
use seplogic.Ra.Ura.{Ura}
use mir.Syntax.{Callee, Ty}
use mir.Val.{Val}
use base.Logic.{SProp, ent, sep, ex, id⊢}
use prog.Wp.{no_local, Calls, Loops, WpFn}
use types.Logic.{Logic, sem}
use sound.WpLaws.{FmC}
use types.Kit.{‵, raw, ◌⊛◌, some, later, ⋆, ◌$◌, ◌∵◌, !, qed, by, move, use1, split, pick, await}
use types.Run.{look, init, stop, load, and_then, returns, enter, alloc1, alloc0, params1, pass1, free0}
use denote.Laws.{Is}
use denote.Triple.Call.{calls_from}
use Rattle.walks.proofs.Steps.{at_local, gone}
use Rattle.events.specs.declared.Stream.{Stream}
use Rattle.events.specs.contracts.Stream as T
use Rattle.events.proofs.Stream.TheLaws as T'
use Rattle.lent_events.specs.Answers.{Answers, stream_val, given_ty}
use Rattle.lent_events.specs.Lent.{Lent, ref_ty, ref_val, reference, token, closed}
use Rattle.lent_events.proofs.Lent.{copied, stored}
use Rattle.lent_events.specs.Params.{Kind, Arguments, param_types, fresh_types, param_values, fresh_values, passed_values, past, Blocks, env, At}
use Rattle.lent_events.proofs.Params.{at_suc, at_here, at_past, alloc_all, pass_all, free_all, lend_all, operands_all}
use Rattle.lent_events.specs.Thin.{before, fresh, given, back, shape}

-- Its environment, and where each local stands there.
module _ (F : Answers) (ks : List Kind) (none : Ty × ℕ) (l₀ l₁ : ℕ) (bs : Blocks (param_types ks)) (lb lg : ℕ) (ts : Blocks (fresh_types ks)) (lz : ℕ) where
  abbrev fresh_env : List (Ty × ℕ)
  fresh_env = env (fresh_types ks) ts ++ ((T'.mir, lz) ∷ [])

  abbrev behind : List (Ty × ℕ)
  behind = (T'.mir, lb) ∷ (given_ty F, lg) ∷ fresh_env

  abbrev from_params : List (Ty × ℕ)
  from_params = env (param_types ks) bs ++ behind

  abbrev environment : List (Ty × ℕ)
  environment = (F.ty, l₀) ∷ (ref_ty, l₁) ∷ from_params

  two_on : (i : ℕ) (D : List (Ty × ℕ)) → At from_params none i D → At environment none (suc (suc i)) D
  two_on i D a = at_suc ((ref_ty, l₁) ∷ from_params) none (F.ty, l₀) (suc i) D (at_suc from_params none (ref_ty, l₁) i D a)

  past_params : (i : ℕ) (D : List (Ty × ℕ)) → At behind none i D → At environment none (suc (suc (past (param_types ks) i))) D
  past_params i D a = two_on (past (param_types ks) i) D (at_past (param_types ks) bs behind none i D a)

  at_before : get_or environment (before ks) none ≡ (T'.mir, lb)
  at_before = (past_params 0 ((T'.mir, lb) ∷ []) (refl, tt)).0

  at_given : get_or environment (given ks) none ≡ (given_ty F, lg)
  at_given = (past_params 1 ((given_ty F, lg) ∷ []) (refl, tt)).0

  at_params : At environment none 2 (env (param_types ks) bs)
  at_params = two_on 0 (env (param_types ks) bs) (at_here (env (param_types ks) bs) behind none)

  at_fresh : At environment none (fresh ks) (env (fresh_types ks) ts)
  at_fresh = past_params 2 (env (fresh_types ks) ts) (at_suc ((given_ty F, lg) ∷ fresh_env) none (T'.mir, lb) 1 (env (fresh_types ks) ts) (at_suc fresh_env none (given_ty F, lg) 0 (env (fresh_types ks) ts) (at_here (env (fresh_types ks) ts) ((T'.mir, lz) ∷ []) none)))

  at_back : get_or environment (back ks) none ≡ (T'.mir, lz)
  at_back = (past_params (suc (suc (past (fresh_types ks) 0))) ((T'.mir, lz) ∷ []) (at_suc ((given_ty F, lg) ∷ fresh_env) none (T'.mir, lb) (suc (past (fresh_types ks) 0)) ((T'.mir, lz) ∷ []) (at_suc fresh_env none (given_ty F, lg) (past (fresh_types ks) 0) ((T'.mir, lz) ∷ []) (at_past (fresh_types ks) ts ((T'.mir, lz) ∷ []) none 0 ((T'.mir, lz) ∷ []) (refl, tt))))).0

-- The walk. `Has` is what the call has of its other parameters, which the callee takes whole. The callee gives back their tokens and its
-- result x, and says `said x`; what that comes to at exit is left to `exits`.
module _ {M : Type 1} {𝓤 : Ura M} (𝓛 : Logic 𝓤) (F : Answers) (n : Callee) (ks : List Kind) (xs : Arguments ks) (r : Lent) (h : Stream) (Has tokens : SProp 𝓤) (said : F.given.Denot → SProp 𝓤) (Left : Val → SProp 𝓤) (C : Calls 𝓤 𝓛.H) (Λ : Loops 𝓤 𝓛.H) (fm : FmC 𝓤 𝓛.H 𝓛.laws C) where
  open 𝓛 use {H}

  pub walk : (Is T.the_row h (stream_val h ∷ []) → ent 𝓤 Has (C n (stream_val h ∷ passed_values ks xs) (λ w. H.⇛ (ex 𝓤 (λ (x : F.given.Denot). sep 𝓤 (sep 𝓤 tokens (sem 𝓛 (F.given.own_val x (w ∷ [])))) (said x))))))
      → ((x : F.given.Denot) → Is F.answer (F.answer_of x) (F.val (F.answer_of x) ∷ []) → ent 𝓤 (⋆ 𝓛 (closed r (F.stream_of x) (raw tokens ∷ raw (said x) ∷ []))) (Left (F.val (F.answer_of x))))
      → ent 𝓤 (⋆ 𝓛 (‵ (reference r h) ∷ ‵ (token r) ∷ raw Has ∷ [])) (WpFn 𝓤 H C Λ (shape F ks n) (ref_val r ∷ passed_values ks xs) Left)
  walk met exits =
      qed 𝓛 (‵ (reference r h) ∷ ‵ (token r) ∷ raw Has ∷ []) ∵ enter ! C Λ (shape F ks n) (ref_val r ∷ passed_values ks xs) _ $
      alloc1 ! (λ l₀. alloc1 ! (λ l₁. alloc_all ! (param_types ks) (λ bs. alloc1 ! (λ lb. alloc1 ! (λ lg. alloc_all ! (fresh_types ks) (λ ts. alloc1 ! (λ lz.
      let none = no_local 𝓤 H in
      move ! (2 ∷ 3 ∷ 4 ∷ 5 ∷ 6 ∷ 7 ∷ 8 ∷ 9 ∷ 10 ∷ 11 ∷ 12 ∷ 13 ∷ 14 ∷ 15 ∷ 16 ∷ []) $ alloc0 ! $ params1 ! $ pass1 ! (init ! 8 refl (tt, tt)) $ move ! (6 ∷ []) $ pass_all ! (behind F ks none l₀ l₁ bs lb lg ts lz) ks xs bs $
      -- [the parameters; the fresh locals; …; given; …; before; …; …; _1; …; _0; …; the reference; its token; what is had]
      move ! (12 ∷ 13 ∷ 8 ∷ 5 ∷ []) $ copied ! r h (before ks) (at_before F ks none l₀ l₁ bs lb lg ts lz) (λ is_stream.
      -- [the record: 5 entries; _1; before; the parameters; the fresh locals; …; given; …; …; …; …; _0; …; what is had]
      move ! (7 ∷ 8 ∷ []) $ lend_all ! ks xs bs ts 2 (fresh ks) (at_params F ks none l₀ l₁ bs lb lg ts lz) (at_fresh F ks none l₀ l₁ bs lb lg ts lz) $ move ! (17 ∷ 8 ∷ 0 ∷ 1 ∷ []) $
      -- [what is had; before; the parameters; the fresh locals; the record: 5; _1; …; given; …; …; …; …; _0; …]
      calls_from ! fm (raw Has) (stream_val h ∷ passed_values ks xs) _ (met is_stream)
      (and_then ! (load ! (at_local ! (at_before F ks none l₀ l₁ bs lb lg ts lz) (stop !)) (look ! 1 refl)) (operands_all ks xs bs ts 2 (fresh ks) (at_params F ks none l₀ l₁ bs lb lg ts lz) (at_fresh F ks none l₀ l₁ bs lb lg ts lz))) (λ w.
      use1 𝓛 (later (some (λ (x : F.given.Denot). (raw tokens ⊛ ‵ (F.given.own_val x (w ∷ []))) ⊛ raw (said x)))) (id⊢ 𝓤 _) $ await ! tt $ pick ! (λ x. split ! $ split ! $
      -- [the tokens; the result; what is said; before; the parameters; the fresh locals; the record: 5; _1; …; given; …; …; …; …; _0; …]
      move ! (1 ∷ 6 ∷ 7 ∷ 8 ∷ 9 ∷ 10 ∷ 18 ∷ 11 ∷ 13 ∷ 20 ∷ []) $ stored ! F r h x w (given ks) (back ks) (at_given F ks none l₀ l₁ bs lb lg ts lz) (at_back F ks none l₀ l₁ bs lb lg ts lz) (λ is.
      -- [the record's borrow: 3; _0; _1; given; the tokens; what is said; before; the parameters; the fresh locals; …; …; …; …; …; …]
      move ! (0 ∷ 1 ∷ 2 ∷ 3 ∷ 4 ∷ 5 ∷ 7 ∷ 8 ∷ 9 ∷ 10 ∷ 11 ∷ 12 ∷ 13 ∷ 14 ∷ 15 ∷ 16 ∷ 17 ∷ 18 ∷ []) $ returns ! (look ! 3 refl) $ gone ! 3 refl 15 refl $ gone ! 3 refl 13 refl $ move ! (7 ∷ 12 ∷ []) $ free_all ! (param_types ks) bs (param_values ks xs) $
      gone ! 6 refl 9 refl $ gone ! 3 refl 7 refl $ move ! (5 ∷ 6 ∷ []) $ free_all ! (fresh_types ks) ts (fresh_values ks xs) $ gone ! 6 refl 5 refl $ free0 ! $ by ! (exits x (F.holds x w is).0))))))))))))
