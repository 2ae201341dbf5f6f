-- The units that are written are the text of the names and its NUL.
use Rattle.std.proofs.Common.{◌≡◌, ◌∙◌, ◌++◌, ◌+◌, [], ap, subst, IfOk, List, ℕ, drop, length, arith}
use Rattle.std.proofs.lemmas.Grind.{common_steps}
use Rattle.std.proofs.lemmas.List.{append-nil, drop_all}
use Rattle.uefi_path.specs.Separators.{with_separators}
use Rattle.uefi_text.specs.Units.{nul_terminated}
use Rattle.uefi_device_path.specs.FilePaths.{file_path}
use Rattle.uefi_device_path.specs.Paths.{nodes_in}
use Rattle.uefi_device_path.proofs.BufferPaths.{file_path_plain}
use Rattle.uefi_device_path.proofs.Names.{never_refused}
use Rattle.uefi_device_path.proofs.file_path.copy_file_path.Goals as goal

pub unreachable-requires : goal.unreachable-requires
unreachable-requires g c =
    never_refused (nodes_in c.args.bytes.now) _ c.in-Err.field-0 c.requires.readable (grind (arith, common_steps)) c.in-Err.ensures.refusal

pub unwrap-string-requires : goal.unwrap-string-requires
unwrap-string-requires g c =
    let path = file_path (nodes_in c.args.bytes.now) in
    let all : drop (length path + 1) c.deref_mut.result.now ≡ [] = drop_all (length path + 1) c.deref_mut.result.now (grind (arith, common_steps)) in
    let whole = c.in-Ok.ensures.ok ∙ ap (λ (us : List ℕ). nul_terminated path ++ us) all ∙ append-nil (nul_terminated path) in
    (c.try_from_vec.ensures.made path c.in-Ok.ensures.text (grind (arith, common_steps, whole))).0

pub returns-in-Ok-new_from_cstring16 : goal.returns-in-Ok-new_from_cstring16
returns-in-Ok-new_from_cstring16 g c =
    let nodes = nodes_in c.args.bytes.now in
    let path = file_path nodes in
    let all : drop (length path + 1) c.deref_mut.result.now ≡ [] = drop_all (length path + 1) c.deref_mut.result.now (grind (arith, common_steps)) in
    let whole = c.in-Ok.ensures.ok ∙ ap (λ (us : List ℕ). nul_terminated path ++ us) all ∙ append-nil (nul_terminated path) in
    let made = (c.try_from_vec.ensures.made path c.in-Ok.ensures.text (grind (arith, common_steps, whole))).1 in
    let text = subst (λ r. IfOk r (λ string. string ≡ path)) c.unwrap-string.ensures made in
    c.in-Ok-new_from_cstring16.ensures.ok ∙ ap with_separators text ∙ file_path_plain nodes
