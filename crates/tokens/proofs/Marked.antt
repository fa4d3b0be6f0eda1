-- The marked cases of document 01 that are proved, as one list with a single statement.
-- Each is computed by the definitions themselves. Assumes nothing.
use Rattle.std.specs.Prelude.{◌≡◌, refl, map}
use Rattle.tokens.specs.Tokens.{tables_1}
use Rattle.tokens.specs.Scan.{listing, list_from}
use Rattle.tokens.specs.Marked.{Case, marked_cases}

pub marked_right : map (λ (c : Case). list_from tables_1 c.source 0 c.mode) marked_cases ≡ map (λ (c : Case). listing c.tokens c.reached) marked_cases
unfolding marked_cases list_from
marked_right = refl
