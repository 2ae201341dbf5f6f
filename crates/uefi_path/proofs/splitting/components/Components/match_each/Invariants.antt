use Rattle.std.proofs.Common.{◌↔◌}
use Rattle.uefi_path.specs.Views.{components_left}
use Rattle.uefi_path.specs.WithoutCase.{MatchEach}
use Rattle.uefi_path.proofs.splitting.components.Components.match_each.Given as goal

-- the components so far match, so those to come decide
abbrev pub invariant-loop-pattern : goal.invariant-loop-pattern
invariant-loop-pattern l =
    MatchEach (components_left l.fn.patterns) (components_left l.fn.self) ↔ MatchEach (components_left l.pattern-iterator) (components_left l.rest)
