-- No text has more characters than bytes.
use Rattle.std.proofs.Common.{◌≡◌, ap, length, rules, arith}
use Rattle.std.specs.Str.{chars}
use Rattle.std.proofs.lemmas.Str.{chars_from_encodes, encodes-chars, length-le-encodes}
use Rattle.uefi_text.proofs.strings.latin1.str_num_latin1_chars.Goals as goal

pub returns-clause-bound : goal.returns-clause-bound
returns-clause-bound c =
    let text = c.args.s.now in
    let count : c.count.result ≡ length (chars text) = search (rules, chars_from_encodes) in
    let all = ap length (encodes-chars text c.utf8.s) in
    omega (arith, count, all, length-le-encodes (chars text))
