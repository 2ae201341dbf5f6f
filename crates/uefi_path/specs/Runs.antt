-- What a loop over components reads of each.
use Rattle.std.specs.Prelude.{◌≢◌, All}
use Rattle.std.specs.Iterator.{YieldsFirstBy}
use Rattle.std.specs.Iterator.Runs.{AllItems, EachRunFrom}
use Rattle.uefi_text.specs.Views.{units_of}
use Rattle.uefi_path.specs.Views.{components_left}
use Rattle.uefi_path.specs.declared.splitting.components.Components.{Components}

-- no run of calls from here gives a component that contains a NUL
abbrev pub GivesNoNulIn : Components → Type 0
GivesNoNulIn here =
    EachRunFrom (YieldsFirstBy units_of components_left) here
    (λ run. AllItems run (λ component. All (λ unit. unit ≢ 0) (units_of component)))
