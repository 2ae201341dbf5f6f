use Rattle.std.proofs.Common.{◌≡◌, take}
use Rattle.upath.specs.PathCommands.{after_commands}
use Rattle.upath.proofs.path_commands.run_commands.Given as goal

-- the path is what the commands so far made of it
abbrev pub invariant-loop-done : goal.invariant-loop-done
invariant-loop-done g l = l.path ≡ after_commands l.fn.path (take l.done l.commands)
