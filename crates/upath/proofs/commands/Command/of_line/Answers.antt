-- The command of a line follows from where it is cut.
use Rattle.std.proofs.Common.{lit<, subst, sym}
use Rattle.std.specs.Str.{IsUtf8}
use Rattle.upath.proofs.CommandCuts.{command_of-not_utf8, command_of-with_text, command_of-alone}
use Rattle.upath.proofs.commands.Command.of_line.Goals as goal

pub returns-in_default : goal.returns-in_default
returns-in_default c = command_of-not_utf8 c.args.line.now c.in_default.ensures.cases.0

pub returns-in-Some : goal.returns-in-Some
returns-in-Some c =
    let text = c.in-Ok.text.now in
    let cut = c.in-Some.ensures.byte (lit< tt) (λ w o h. h) in
    let utf8 : IsUtf8 text = subst IsUtf8 (sym c.in-Ok.ensures.cases.0) c.in-Ok.ensures.cases.1 in
    rw (c.with_text.ensures, ← c.in-Ok.ensures.cases.0) (command_of-with_text text _ _ utf8 cut.0 cut.1 cut.2)

pub returns-in-None : goal.returns-in-None
returns-in-None c =
    let text = c.in-Ok.text.now in
    let past = c.in-None.ensures.byte (lit< tt) (λ w o h. h) in
    let utf8 : IsUtf8 text = subst IsUtf8 (sym c.in-Ok.ensures.cases.0) c.in-Ok.ensures.cases.1 in
    rw (c.alone.ensures, ← c.in-Ok.ensures.cases.0) (command_of-alone text utf8 past)
