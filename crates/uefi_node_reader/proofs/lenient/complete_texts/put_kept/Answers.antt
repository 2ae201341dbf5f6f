use Rattle.std.proofs.Common.{◌≡◌, ◌+◌, List, ℕ, length, ap, ◌∙◌, arith}
use Rattle.std.proofs.lemmas.List.Edits.{length-between}
use Rattle.uefi_device_nodes.specs.Rows.{Piece, as_piece, value_at}
use Rattle.uefi_node_reader.specs.TableReading.{put_at}
use Rattle.uefi_node_reader.proofs.PieceLaws.{within_parts}
use Rattle.uefi_node_reader.proofs.ToldNodes.{kept_whole, put_is}
use Rattle.uefi_node_reader.proofs.lenient.complete_texts.put_kept.Goals as goal

pub returns-in_default : goal.returns-in_default
returns-in_default c =
    let piece : Piece = as_piece c.args.piece.now in
    let fixed = c.args.fixed.now in
    let within = (within_parts (length fixed) piece c.requires.within).0 in
    let wide : length (value_at piece fixed) ≡ piece.width =
    length-between fixed piece.place (piece.place + piece.width) within ∙ omega arith in
    put_is piece (value_at piece fixed) c.args.content.now c.push_all.new.places c.push_all.result wide
    (omega (arith, within, c.requires.same)) (omega (arith, within)) c.push_all.ensures
    ∙ ap (λ (v : List ℕ). put_at piece v c.args.content.now)
    (kept_whole piece.shape c.in_default.not-Eisa c.in_default.not-Word (value_at piece fixed))
