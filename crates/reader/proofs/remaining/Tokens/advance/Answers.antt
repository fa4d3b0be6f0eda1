-- An advance is a scan by a reader that can scan, which is not refused: it finds a token and goes on (onward), or it is at the end.
-- Assumes nothing.
use Rattle.std.proofs.Common.{◌≡◌, refl, ap, sym, ◌∙◌, Some, Ok}
use Rattle.reader.specs.Reading.{scan_told}
use Rattle.reader.proofs.Answers.{onward}
use Rattle.reader.proofs.remaining.Tokens.advance.Goals as goal

pub invariant_of-self : goal.invariant_of-self
invariant_of-self c =
    let f = c.in-Ok-Some in
    record { sound = (onward c.args.self.now.sound c.scan.ensures (f.is ∙ ap (λ x. Ok x) f.field-0-is)).sound }

pub returns : goal.returns
returns c =
    let f = c.in-Ok-Some in
    let is : c.scan.result ≡ Ok (Some (f.token, f.moved)) = f.is ∙ ap (λ x. Ok x) f.field-0-is in
    (refl, ap scan_told (sym is) ∙ c.scan.ensures, onward c.args.self.now.sound c.scan.ensures is)
