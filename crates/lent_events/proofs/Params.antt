-- The parameters of a thin call beside the record, whatever they are: each is handed on to the callee as it is, or, where it is a `&mut`
-- slice, lent again in a local of its own. What a walk does with a list of locals is said once here, by recursion on the list.
-- Assumes nothing.
use Rattle.std.specs.Prelude.{refl, ℕ, zero, suc, List, [], ◌∷◌, ◌++◌}
use seplogic.Ra.Ura.{Ura}
use base.Fraction.{full_share}
use mir.Syntax.{Ty, Local, Opd as Operand, Body, erased, mut, ty_int, ty_ref}
use mir.Val.{Val, vptr}
use base.Logic.{ent, via}
use base.Fml.{fat}
use prog.Wp.{Env, no_local, Calls, Loops}
use types.Logic.{Logic}
use types.Kit.{Item, ‵, ◌⊛◌, ⋆, Post, Goal, runs, allocs, passes, frees, Seq, Step, step, ◌$◌, ◌∵◌, Go, !, qed, move, drop, split, join, done}
use types.Run.{Opds, look, init, forget, stop, hop, fld, load, addr, and_then, no_more, assigns, alloc1, pass1, pass0, free1}
use types.Part.{agg, whole, sub, look_in}
use denote.Slice.{slice_val}
use denote.Steps.{nothing}
use Rattle.walks.specs.Steps.{slice_ty, script, goes_on}
use Rattle.walks.proofs.Steps.{at_local}
use Rattle.lent_events.specs.Params.{Arguments, At, Blocks, Kind, Values, again, cells, ends, env, fresh_types, fresh_values, lends, locals, operands, param_types, param_values, passed, passed_values, past, rooms}

pub at_suc : (E : List (Ty × ℕ)) (none e : Ty × ℕ) (i : ℕ) (D : List (Ty × ℕ)) → At E none i D → At (e ∷ E) none (suc i) D
at_suc E none e i [] a = tt
at_suc E none e i (x ∷ D) a = (a.0, at_suc E none e (suc i) D a.1)

pub at_here : (D E : List (Ty × ℕ)) (none : Ty × ℕ) → At (D ++ E) none 0 D
at_here [] E none = tt
at_here (x ∷ D) E none = (refl, at_suc (D ++ E) none x 0 D (at_here D E none))

pub at_past : (τs : List Ty) (bs : Blocks τs) (E : List (Ty × ℕ)) (none : Ty × ℕ) (i : ℕ) (D : List (Ty × ℕ)) → At E none i D → At (env τs bs ++ E) none (past τs i) D
at_past [] bs E none i D a = a
at_past (τ ∷ τs) bs E none i D a = at_suc (env τs bs.1 ++ E) none (τ, bs.0) (past τs i) D (at_past τs bs.1 E none i D a)

module _ {M : Type 1} {𝓤 : Ura M} {𝓛 : Logic 𝓤} {K : Type 0} where
  -- all are allocated
  open 𝓛 use {H}

  pub alloc_all : K → (τs : List Ty) {Γ : List (Item 𝓤)} {ls : List Local} {Kt : Env 𝓤 H → Goal 𝓤 H} → ((bs : Blocks τs) → Seq K 𝓛 (rooms 𝓤 τs bs ∷ ends 𝓤 τs bs ∷ Γ) (allocs ls (λ E. Kt (env τs bs ++ E)))) → Seq K 𝓛 Γ (allocs (locals τs ++ ls) Kt)
  alloc_all t [] k = script (nothing ! $ nothing ! $ goes_on (k tt))
  alloc_all t (τ ∷ τs) k = script (alloc1 ! (λ b. goes_on (alloc_all t τs (λ bs. script (move ! (2 ∷ 0 ∷ []) $ join ! $ move ! (2 ∷ 1 ∷ []) $ join ! $ move ! (1 ∷ []) $ goes_on (k (b, bs)))))))

  -- all are freed
  pub free_all : K → (τs : List Ty) (bs : Blocks τs) (us : Values τs) {Γ : List (Item 𝓤)} {E : Env 𝓤 H} {G : Goal 𝓤 H} → Step K 𝓛 Γ (frees E G) (cells 𝓤 τs bs us ∷ ends 𝓤 τs bs ∷ Γ) (frees (env τs bs ++ E) G)
  free_all t [] bs us = step (λ s. script (drop ! $ drop ! $ goes_on s))
  free_all t (τ ∷ τs) bs us = step (λ s. script (split ! $ move ! (2 ∷ []) $ split ! $ move ! (2 ∷ 0 ∷ []) $ forget ! 0 refl $ free1 ! $ move ! (1 ∷ 0 ∷ []) $ goes_on (free_all t τs bs.1 us.1 $ s)))

  -- the parameters get what is passed
  pub pass_all : K → (E : Env 𝓤 H) (ks : List Kind) (xs : Arguments ks) (bs : Blocks (param_types ks)) {Γ : List (Item 𝓤)} {G : Goal 𝓤 H}
      → Step K 𝓛 (cells 𝓤 (param_types ks) bs (param_values ks xs) ∷ Γ) G (rooms 𝓤 (param_types ks) bs ∷ Γ) (passes (env (param_types ks) bs ++ E) (passed_values ks xs) G)
  pass_all t E [] xs bs = step (λ s. script (pass0 ! $ goes_on s))
  pass_all t E (passed τ ∷ ks) xs bs = step (λ s. script (split ! $ pass1 ! (init ! 0 refl xs.0.1) $ move ! (1 ∷ []) $ goes_on (pass_all t E ks xs.1 bs.1 $ script (move ! (1 ∷ 0 ∷ []) $ join ! $ goes_on s))))
  pass_all t E (again ℓ w ∷ ks) xs bs = step (λ s. script (split ! $ pass1 ! (init ! 0 refl (tt, (tt, (record { fits = xs.0.2 }, tt)))) $ move ! (1 ∷ []) $ goes_on (pass_all t E ks xs.1 bs.1 $ script (move ! (1 ∷ 0 ∷ []) $ join ! $ goes_on s))))

module _ {M : Type 1} {𝓤 : Ura M} {𝓛 : Logic 𝓤} {K : Type 0} {Γ : List (Item 𝓤)} {E : Env 𝓤 𝓛.H} where
  -- operands are read alike in a context that says the same
  seen_as : K → (Δ : List (Item 𝓤)) {xs : List Operand} {vs : List Val} → ent 𝓤 (⋆ 𝓛 Γ) (⋆ 𝓛 Δ) → ent 𝓤 (⋆ 𝓛 Δ) (⋆ 𝓛 Γ) → Opds K 𝓛 Δ E xs vs → Opds K 𝓛 Γ E xs vs
  seen_as t Δ forth back os = record { go = λ Kt h. via 𝓤 (⋆ 𝓛 Δ) forth (os.go Kt (via 𝓤 (⋆ 𝓛 Γ) back h)) }

module _ {M : Type 1} {𝓤 : Ura M} {𝓛 : Logic 𝓤} {K : Type 0} {E : Env 𝓤 𝓛.H} {C : Calls 𝓤 𝓛.H} {Λ : Loops 𝓤 𝓛.H} {Q : Post 𝓤 𝓛.H} {rest : Body} where
  -- the slices are lent again
  open 𝓛 use {H}

  pub lend_all : K → (ks : List Kind) (xs : Arguments ks) (bs : Blocks (param_types ks)) (ts : Blocks (fresh_types ks)) (i t : ℕ) → At E (no_local 𝓤 H) i (env (param_types ks) bs) → At E (no_local 𝓤 H) t (env (fresh_types ks) ts) → {Γ : List (Item 𝓤)}
      → Step K 𝓛 (cells 𝓤 (param_types ks) bs (param_values ks xs) ∷ cells 𝓤 (fresh_types ks) ts (fresh_values ks xs) ∷ Γ) (runs C Λ E rest Q) (cells 𝓤 (param_types ks) bs (param_values ks xs) ∷ rooms 𝓤 (fresh_types ks) ts ∷ Γ) (runs C Λ E (lends i t ks rest) Q)
  lend_all m [] xs bs ts i t a z = step (λ s. s)
  lend_all m (passed τ ∷ ks) xs bs ts i t a z = step (λ s. script (split ! $ move ! (1 ∷ 2 ∷ []) $ goes_on (lend_all m ks xs.1 bs.1 ts (suc i) t a.1 z $ script (move ! (2 ∷ 0 ∷ []) $ join ! $ goes_on s))))
  lend_all m (again ℓ w ∷ ks) xs bs ts i t a z = step (λ s. script (split ! $ move ! (2 ∷ []) $ split ! $ move ! (1 ∷ []) $ split ! $
      -- [room for the slice; room for the later ones; room for the pointer; the parameter; the later ones; …]
      assigns ! (addr ! (at_local ! a.0 (fld ! refl (hop ! (look_in ! 3 (sub ! 0 refl (whole !))) (stop !))))) (at_local ! z.0 (stop !)) (init ! 2 refl (tt, tt)) $
      assigns ! (agg ! (and_then ! (load ! (at_local ! z.0 (stop !)) (look ! 2 refl)) (and_then ! (load ! (at_local ! a.0 (fld ! refl (stop !))) (look_in ! 3 (sub ! 1 refl (whole !)))) (no_more !)))) (at_local ! z.1.0 (stop !))
      (init ! 0 refl (tt, (tt, (record { fits = xs.0.2 }, tt)))) $
      move ! (4 ∷ 1 ∷ []) $ goes_on (lend_all m ks xs.1 bs.1 ts.1.1 (suc i) (suc (suc t)) a.1 z.1.1 $ script (move ! (2 ∷ 1 ∷ []) $ join ! $ move ! (2 ∷ 0 ∷ []) $ join ! $ move ! (2 ∷ 1 ∷ []) $ join ! $ goes_on s))))

module _ {M : Type 1} {𝓤 : Ura M} {𝓛 : Logic 𝓤} {E : Env 𝓤 𝓛.H} where
  open 𝓛 use {H}

  from_cells : (ks : List Kind) (xs : Arguments ks) (bs : Blocks (param_types ks)) (ts : Blocks (fresh_types ks)) (i t : ℕ) → At E (no_local 𝓤 H) i (env (param_types ks) bs) → At E (no_local 𝓤 H) t (env (fresh_types ks) ts) → {Γ : List (Item 𝓤)}
      → Opds (Go {0}) 𝓛 (cells 𝓤 (param_types ks) bs (param_values ks xs) ∷ cells 𝓤 (fresh_types ks) ts (fresh_values ks xs) ∷ Γ) E (operands i t ks) (passed_values ks xs)
  from_cells [] xs bs ts i t a z = no_more !
  from_cells (passed τ ∷ ks) xs bs ts i t a z {Γ} =
      let c : Item 𝓤 = ‵ (fat full_share τ bs.0 zero xs.0.0) in
      let cs : Item 𝓤 = cells 𝓤 (param_types ks) bs.1 (param_values ks xs.1) in
      let us : Item 𝓤 = cells 𝓤 (fresh_types ks) ts (fresh_values ks xs.1) in
      seen_as ! (cs ∷ us ∷ c ∷ Γ) (qed 𝓛 ((c ⊛ cs) ∷ us ∷ Γ) ∵ split ! $ move ! (1 ∷ 2 ∷ []) $ done !) (qed 𝓛 (cs ∷ us ∷ c ∷ Γ) ∵ move ! (2 ∷ 0 ∷ []) $ join ! $ done !)
      (and_then ! (load ! (at_local ! a.0 (stop !)) (look ! 2 refl)) (from_cells ks xs.1 bs.1 ts (suc i) t a.1 z))
  from_cells (again ℓ w ∷ ks) xs bs ts i t a z {Γ} =
      let v : Val = slice_val xs.0.0 xs.0.1 in
      let c : Item 𝓤 = ‵ (fat full_share (slice_ty ℓ mut w) bs.0 zero v) in
      let p : Item 𝓤 = ‵ (fat full_share (ty_ref erased mut (ty_int w)) ts.0 zero (vptr xs.0.0.0 xs.0.0.1)) in
      let r : Item 𝓤 = ‵ (fat full_share (slice_ty erased mut w) ts.1.0 zero v) in
      let cs : Item 𝓤 = cells 𝓤 (param_types ks) bs.1 (param_values ks xs.1) in
      let us : Item 𝓤 = cells 𝓤 (fresh_types ks) ts.1.1 (fresh_values ks xs.1) in
      seen_as ! (cs ∷ us ∷ r ∷ p ∷ c ∷ Γ)
      (qed 𝓛 ((c ⊛ cs) ∷ (p ⊛ r ⊛ us) ∷ Γ) ∵ split ! $ move ! (2 ∷ []) $ split ! $ move ! (1 ∷ []) $ split ! $ move ! (4 ∷ 1 ∷ 0 ∷ []) $ done !)
      (qed 𝓛 (cs ∷ us ∷ r ∷ p ∷ c ∷ Γ) ∵ move ! (2 ∷ 1 ∷ []) $ join ! $ move ! (2 ∷ 0 ∷ []) $ join ! $ move ! (2 ∷ 1 ∷ []) $ join ! $ done !)
      (and_then ! (load ! (at_local ! z.1.0 (stop !)) (look ! 2 refl)) (from_cells ks xs.1 bs.1 ts.1.1 (suc i) (suc (suc t)) a.1 z.1.1))

  -- what the callee is passed is read, with two entries in front
  pub operands_all : (ks : List Kind) (xs : Arguments ks) (bs : Blocks (param_types ks)) (ts : Blocks (fresh_types ks)) (i t : ℕ) → At E (no_local 𝓤 H) i (env (param_types ks) bs) → At E (no_local 𝓤 H) t (env (fresh_types ks) ts) → {x y : Item 𝓤} {Γ : List (Item 𝓤)}
      → Opds (Go {0}) 𝓛 (x ∷ y ∷ cells 𝓤 (param_types ks) bs (param_values ks xs) ∷ cells 𝓤 (fresh_types ks) ts (fresh_values ks xs) ∷ Γ) E (operands i t ks) (passed_values ks xs)
  operands_all ks xs bs ts i t a z {x} {y} {Γ} =
      let cs : Item 𝓤 = cells 𝓤 (param_types ks) bs (param_values ks xs) in
      let us : Item 𝓤 = cells 𝓤 (fresh_types ks) ts (fresh_values ks xs) in
      seen_as ! (cs ∷ us ∷ x ∷ y ∷ Γ) (qed 𝓛 (x ∷ y ∷ cs ∷ us ∷ Γ) ∵ move ! (2 ∷ 3 ∷ []) $ done !) (qed 𝓛 (cs ∷ us ∷ x ∷ y ∷ Γ) ∵ move ! (2 ∷ 3 ∷ []) $ done !) (from_cells ks xs bs ts i t a z)
