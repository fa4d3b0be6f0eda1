-- `lines::decode` meets its contract. The loop's invariant: `len` bytes were decoded, up to `end`, and the rest decodes as it did.
-- Assumes nothing.
use Rattle.lines.specs.DecodingLaws.{Decoding}
use Rattle.lines.proofs.hex_pairs.decode.Given as goal

abbrev pub invariant-loop-len : goal.invariant-loop-len
invariant-loop-len l = Decoding l.text l.from l.initial.out l.out l.len l.end
