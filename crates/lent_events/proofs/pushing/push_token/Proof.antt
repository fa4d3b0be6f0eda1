-- `lent_events::push_token` meets its contract: it has the shape `push`, and the covered call that it makes
-- meets the same of the record by value. Assumes nothing.
use Rattle.std.specs.Prelude.{[], ◌∷◌}
use contract.Monad.{fact_i}
use contract.Running.{tables, tables_of}
use denote.Triple.Spec.{triple_of}
use denote.Triple.Table.{entered}
use Rattle.event_record.specs.Record.{push_token as call}
use Rattle.events.proofs.Stream.push_token.Symbol as core_def
use Rattle.events.proofs.Stream.push_token.Met as core_thm
use Rattle.lent_events.specs.Answers.{dones, stream_val}
use Rattle.lent_events.specs.Lifted.{spelt}
use Rattle.lent_events.proofs.Lifted.{meets}
use Rattle.lent_events.specs.Shapes.{push, pushing}
use Rattle.lent_events.specs.contracts.pushing.push_token as thin
use Rattle.lent_events.specs.contracts.pushing.push_token.Key as key
use Rattle.lent_events.proofs.pushing.push_token.Statement as stated
use Rattle.lent_events.proofs.pushing.push_token.Code as code

pub push_token_spec : {M : Type 1} → stated.statement M
unfolding tables_of
push_token_spec 𝓤 𝓛 𝓜 𝓡 w =
    entered 𝓤 𝓛.H (triple_of 𝓛 thin.signature (thin.spec 𝓛 𝓜.mem 𝓡.returns))
    (tables 𝓤 𝓛.H 𝓜 𝓡 𝓡.env).C (tables 𝓤 𝓛.H 𝓜 𝓡 𝓡.env).Λ key.name code.function (code.unfolded 𝓤 𝓛.H 𝓜 𝓡 w)
    (meets dones push 𝓛 core_def.name (pushing call) (tables_of 𝓤 𝓛.H 𝓜 (tables 𝓤 𝓛.H 𝓜 𝓡 𝓡.env)) (thin.clauses 𝓛 𝓜.mem 𝓡.returns)
    (λ κs a g e z promised. fact_i 𝓤 _ _ promised)
    (λ κs qs h a is. core_thm.met 𝓤 𝓛 𝓜 𝓡 (code.calls-events::Stream::push_token 𝓡.env w) ((κs.1, qs.1, tt, (h, a), (stream_val h ∷ [], spelt push κs a)), tt)))
