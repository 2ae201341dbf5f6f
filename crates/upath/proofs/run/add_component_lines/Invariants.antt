use Rattle.std.proofs.Common.{◌≡◌, ◌++◌}
use Rattle.std.specs.List.{flat_map}
use Rattle.std.specs.Prelude.{codes}
use Rattle.uefi_path.specs.Components.{components_of}
use Rattle.uefi_path.specs.Views.{components_left}
use Rattle.upath.specs.Output.{text_line}
use Rattle.upath.proofs.run.add_component_lines.Given as goal

-- what was added, and the components to come, is the whole
abbrev pub invariant-loop-component : goal.invariant-loop-component
invariant-loop-component g l =
    l.output.items ++ flat_map (text_line (codes "| ")) (components_left l.component-iterator)
    ≡ l.fn.output.items ++ flat_map (text_line (codes "| ")) (components_of l.path)
