-- The word ends where its tail does, and its kind is the keyword's or IDENT: what `word_hit` asks for.
-- Assumes nothing.
use Rattle.std.proofs.Common.{◌-◌, ap, ◌∙◌, arith}
use Rattle.tokens.specs.Scan.{hit}
use Rattle.places.specs.Signs.{matched}
use Rattle.rules.proofs.Better.{matched_some}
use Rattle.rules.proofs.Words.{tail_within, word_hit}
use Rattle.rules.proofs.normal_mode.word.Goals as goal

pub slice_bounds-keyword-end : goal.slice_bounds-keyword-end
slice_bounds-keyword-end c =
    let a = c.args in
    tail_within a.src.now a.at c.word_tail-end.result c.requires.0 c.word_tail-end.ensures

pub returns : goal.returns
returns c =
    let a = c.args in
    matched_some (hit c.keyword.result (c.word_tail-end.result - a.at)) (omega arith)
    ∙ ap matched (word_hit a.src.now a.at c.word_tail-end.result c.keyword.result c.requires.0 c.requires.1 c.word_tail-end.ensures c.keyword.ensures)
