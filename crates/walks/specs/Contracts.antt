-- From a walk to a contract: the machine values of what is passed are written out, a callee's answer is what its promise says, and what a
-- function returns is what its contract wants. A contract speaks of tokens, result and last values alone, so nothing else is kept.
-- Assumes nothing.

use seplogic.Ra.Ura.{Ura}
use base.Logic.{ent, emp}
use contract.Lifetimes.{Lfts}
use denote.Triple.Clauses.{Ended, Clauses, AtExit}
use denote.Triple.Entry.{Args, Res}

-- What is known at exit, of the arguments, the result and the last values, gives what a contract ensures.
abbrev pub Follows : {M : Type 1} (𝓤 : Ura M) (T : Ended) → ((κs : Lfts T.signature.lifetimes) → Args T.signature κs → Res T.signature κs → AtExit T κs → Type 0) → Clauses 𝓤 T → Type 1
Follows 𝓤 T Known c = (κs : Lfts T.signature.lifetimes) (a : Args T.signature κs) (g : (c κs a).ghost) (r : Res T.signature κs) (z : AtExit T κs) → Known κs a r z → ent 𝓤 (emp 𝓤) ((c κs a).ensures g r z)
