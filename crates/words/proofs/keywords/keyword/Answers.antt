-- Only the keywords that are as long as the word count (at_length); a word of any other length is none (no_keyword). Assumes nothing.
use Rattle.std.proofs.Common.{rules}
use Rattle.words.specs.Lengths.{as_long, at_length, no_keyword}
use Rattle.tokens.specs.Tokens.{words_1}
use Rattle.words.proofs.keywords.keyword.Goals as goal

pub returns-in-2 : goal.returns-in-2
unfolding words_1 as_long
returns-in-2 c = at_length c.args.word.now 2 c.among.ensures c.in-2.is

pub returns-in-3 : goal.returns-in-3
unfolding words_1 as_long
returns-in-3 c = at_length c.args.word.now 3 c.among-in-3.ensures c.in-3.is

pub returns-in-4 : goal.returns-in-4
unfolding words_1 as_long
returns-in-4 c = at_length c.args.word.now 4 c.among-in-4.ensures c.in-4.is

pub returns-in-5 : goal.returns-in-5
unfolding words_1 as_long
returns-in-5 c = at_length c.args.word.now 5 c.among-in-5.ensures c.in-5.is

pub returns-in-6 : goal.returns-in-6
unfolding words_1 as_long
returns-in-6 c = at_length c.args.word.now 6 c.among-in-6.ensures c.in-6.is

pub returns-in-7 : goal.returns-in-7
unfolding words_1 as_long
returns-in-7 c = at_length c.args.word.now 7 c.among-in-7.ensures c.in-7.is

pub returns-in-8 : goal.returns-in-8
unfolding words_1 as_long
returns-in-8 c = at_length c.args.word.now 8 c.among-in-8.ensures c.in-8.is

pub returns-in-9 : goal.returns-in-9
unfolding words_1 as_long
returns-in-9 c = at_length c.args.word.now 9 c.among-in-9.ensures c.in-9.is

pub returns-in-10 : goal.returns-in-10
unfolding words_1 as_long
returns-in-10 c = at_length c.args.word.now 10 c.among-in-10.ensures c.in-10.is

pub returns-in-11 : goal.returns-in-11
unfolding words_1 as_long
returns-in-11 c = at_length c.args.word.now 11 c.among-in-11.ensures c.in-11.is

pub returns-in_default : goal.returns-in_default
returns-in_default c = no_keyword c.args.word.now (search rules)
