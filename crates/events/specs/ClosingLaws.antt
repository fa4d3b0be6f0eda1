-- What the calls that close answer, branch by branch of the code: the first ground that holds refuses, and where none holds the stores
-- are those of the list that the call leaves. For the list's figures are the record's. Assumes nothing.
use Rattle.std.specs.Prelude.{◌+◌, ◌<◌, ◌≡◌, [], ◌∷◌, length}
use Rattle.std.proofs.Common.{sym, ◌∙◌, arith}
use Rattle.std.proofs.Math.Path.{ap}
use Rattle.std.proofs.Math.Bool.{true, false}
use Rattle.std.proofs.Math.Dec.{eqb}
use borrow.Author.Tests.{eq-eqb, ne_eqb}
use Rattle.event_record.specs.declared.Event.{Event}
use Rattle.event_record.specs.Record.{Call, end, end_with_error, done, refused, reply, error_kind}
use Rattle.event_record.specs.Record.{inner, ended, grounds}
use Rattle.events.specs.Stream.{State, view, laid, answered, inner_place}
use Rattle.events.specs.Parts.{event_at}
use Rattle.events.specs.SoundLaws.{Fit}
use Rattle.events.specs.HoldLaws.{view_count, view_opened}
use Rattle.events.specs.ClosingParts.{end_left, drop_left}
use Rattle.events.specs.ClosingHolds.{view_inner, view_inner_event, end_held, drop_held}

module _ (s : State) (k : Fit s) where
  some_open : 0 < s.stream.opened → eqb (length (view s).opens) 0 ≡ false
  some_open o = ne_eqb (length (view s).opens) 0 (λ z. omega (arith, z, view_opened s k))

  pub nothing_open : (c : Call) → grounds c (view s) ≡ (eqb (length (view s).opens) 0, 6) ∷ [] → s.stream.opened ≡ 0
      → reply (refused 6) s ≡ answered c s
  unfolding answered
  nothing_open c g e = rw (g, view_opened s k, eq-eqb _ _ e)

  pub node_ended : 0 < s.stream.opened → reply done (end_left (event_at s.stream s.room (inner_place s)).kind s) ≡ answered end s
  unfolding answered
  node_ended o =
      rw (some_open o)
      (end_held s k (event_at s.stream s.room (inner_place s)).kind o
      ∙ ap (λ (y : Event). laid s (reply done (ended y.kind (view s)))) (sym (view_inner_event s k o)))

  pub node_dropped : 0 < s.stream.opened → inner_place s + 1 ≡ s.stream.count → reply done (drop_left s) ≡ answered end_with_error s
  unfolding answered
  node_dropped o e =
      let b : eqb (inner (view s) + 1) (length (view s).events) ≡ true =
      eq-eqb (inner (view s) + 1) (length (view s).events) (omega (arith, e, view_inner s k o, view_count s k)) in
      rw (some_open o, b) (drop_held s k o e)

  pub node_failed : 0 < s.stream.opened → (inner_place s + 1 ≡ s.stream.count → ⊥)
      → reply done (end_left error_kind s) ≡ answered end_with_error s
  unfolding answered
  node_failed o e =
      let b : eqb (inner (view s) + 1) (length (view s).events) ≡ false =
      ne_eqb (inner (view s) + 1) (length (view s).events) (λ z. e (omega (arith, z, view_inner s k o, view_count s k))) in
      rw (some_open o, b) (end_held s k error_kind o)
