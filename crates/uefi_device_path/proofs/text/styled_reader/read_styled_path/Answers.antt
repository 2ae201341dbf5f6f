-- The path without nodes takes those of the text, unless memory ran out.
use Rattle.std.proofs.Common.{◌≡◌, ◌++◌, ◌∙◌, [], List, ap, refl, subst, sym}
use Rattle.std.proofs.lemmas.List.{append-nil}
use Rattle.std.specs.Option.{ok_or}
use Rattle.std.specs.Prelude.{IfOk, Option, Some, None, Result, Ok, Err}
use Rattle.std.specs.Result.{result_ok}
use Rattle.uefi_device_nodes.specs.Nodes.{Node}
use Rattle.uefi_device_path.specs.NodeSinks.{IsLonger}
use Rattle.uefi_device_path.specs.StyledReading.{GivesText, path_read}
use Rattle.uefi_device_path.specs.declared.text.text_errors.PathTextError.{PathTextError}
use Rattle.uefi_device_path.specs.declared.text.text_errors.PathTextError.TheVariants.{OutOfMemory}
use Rattle.uefi_device_path.specs.declared.text.text_errors.TextFault.{TextFault}
use Rattle.uefi_device_path.proofs.text.styled_reader.read_styled_path.Goals as goal

-- a path takes no node
longer_none : (path : Option (List Node)) → IsLonger path [] path
longer_none None = tt
longer_none (Some nodes) = (nodes, refl, sym (append-nil nodes))

-- the path that took the nodes of a text
gives : {E : Type 0} (made : Result (List Node) E) (path : Option (List Node)) (nodes : List Node) (read : Result (List Node) TextFault)
    → IfOk made (λ first. first ≡ []) → IsLonger (result_ok made) nodes path → read ≡ Ok nodes → GivesText (ok_or path OutOfMemory) read
gives made None nodes read empty longer is = (nodes, is)
gives (Ok first) (Some path) nodes read empty (start, same, longer) is =
    let begins : first ≡ start = cc in
    is ∙ ap (λ (ns : List Node). Ok ns) (sym (longer ∙ ap (λ (ns : List Node). ns ++ nodes) (sym begins ∙ empty)))
gives (Err error) (Some path) nodes read empty (start, same, longer) is = cc

pub put_text-requires : goal.put_text-requires
put_text-requires g c = longer_none _

pub returns-in-Ok : goal.returns-in-Ok
returns-in-Ok g c =
    let (nodes, is, longer) = c.in-Ok.ensures in
    subst (λ (r : Result (List Node) PathTextError). GivesText r (path_read c.args.style (g.T.Text.bytes c.args.text))) (sym c.ok_or.ensures.value)
    (gives c.with_room.result c.put_text.new.sink nodes _ c.with_room.ensures
    (subst (λ (first : Option (List Node)). IsLonger first nodes c.put_text.new.sink) c.ok-path.ensures.value longer) is)
