-- `lent_events::truncate` meets its contract: it has the shape `at_mark`, and the covered call that it makes
-- meets the same of the record by value. Assumes nothing.
use Rattle.std.specs.Prelude.{[], ◌∷◌}
use contract.Monad.{fact_i}
use contract.Running.{tables, tables_of}
use denote.Triple.Spec.{triple_of}
use denote.Triple.Table.{entered}
use Rattle.event_record.specs.Record.{truncate as call}
use Rattle.events.proofs.Stream.truncate.Symbol as core_def
use Rattle.events.proofs.Stream.truncate.Met as core_thm
use Rattle.lent_events.specs.Answers.{dones, stream_val}
use Rattle.lent_events.specs.Lifted.{spelt}
use Rattle.lent_events.proofs.Lifted.{meets}
use Rattle.lent_events.specs.Shapes.{at_mark, marking}
use Rattle.lent_events.specs.contracts.marking.truncate as thin
use Rattle.lent_events.specs.contracts.marking.truncate.Key as key
use Rattle.lent_events.proofs.marking.truncate.Statement as stated
use Rattle.lent_events.proofs.marking.truncate.Code as code

pub truncate_spec : {M : Type 1} → stated.statement M
unfolding tables_of
truncate_spec 𝓤 𝓛 𝓜 𝓡 w =
    entered 𝓤 𝓛.H (triple_of 𝓛 thin.signature (thin.spec 𝓛 𝓜.mem 𝓡.returns))
    (tables 𝓤 𝓛.H 𝓜 𝓡 𝓡.env).C (tables 𝓤 𝓛.H 𝓜 𝓡 𝓡.env).Λ key.name code.function (code.unfolded 𝓤 𝓛.H 𝓜 𝓡 w)
    (meets dones at_mark 𝓛 core_def.name (marking call) (tables_of 𝓤 𝓛.H 𝓜 (tables 𝓤 𝓛.H 𝓜 𝓡 𝓡.env)) (thin.clauses 𝓛 𝓜.mem 𝓡.returns)
    (λ κs a g e z promised. fact_i 𝓤 _ _ promised)
    (λ κs qs h a is. core_thm.met 𝓤 𝓛 𝓜 𝓡 (code.calls-events::Stream::truncate 𝓡.env w) ((κs.1, qs.1, tt, (h, a), (stream_val h ∷ [], spelt at_mark κs a)), tt)))
