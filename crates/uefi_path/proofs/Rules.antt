-- What the proofs of a file of `src/` share: lemmas that its goals ask for.
use Rattle.uefi_path.proofs.Joining.{some_slice_split, hint_of_split, AreComponents-components_of, with_separators-plain, IsPlain-with_separators, IsPlain-no_slash, length-slice_split-le}
use Rattle.std.proofs.Common.{length-drop, lt_of_lt_of_le, pow_mono}
use Rattle.uefi_path.proofs.SeparatorPlaces.{whole_piece, placed_cut, canonical_placed, length-places, IsText-part, length-places_from, others_ahead, lowest_cut}
use Rattle.std.proofs.lemmas.Bool.{false≢true, ltb-false}
use Rattle.uefi_path.proofs.Validity.{valid_unrefused, valid-accepted, valid-plain}
use Rattle.uefi_path.proofs.LastPieces.{to_the_end}
use Rattle.uefi_path.proofs.Rewriting.{kind-Name, names_of_normal}
use Rattle.uefi_path.proofs.KeptNames.{last_name_before, from_start, normal_text-names}
use Rattle.std.proofs.lemmas.Grind.{common_steps}
use Rattle.uefi_path.proofs.ParentForm.{cut_some, units-canonical}
use Rattle.std.proofs.lemmas.List.Sums.{prefix_len-le-length}
use Rattle.std.proofs.lemmas.Bool.Decides.{nat_tests}
use Rattle.std.proofs.lemmas.List.{take_all, drop_at, append-nil, drop_all, length-map}
use Rattle.std.proofs.lemmas.Simd.{ones-mask_l, mask_l-lt}
use Rattle.uefi_path.proofs.Slashes.{cut_at_end, one_piece}

pub ruleset indices_rules = (AreComponents-components_of, length-drop)

pub ruleset cuts_rules = (whole_piece, placed_cut, some_slice_split, hint_of_split, length-slice_split-le, units-canonical)

pub ruleset faults_rules = (false≢true, valid_unrefused)

pub ruleset kept_names_rules = (kind-Name, last_name_before, common_steps, from_start, names_of_normal, valid-accepted)

pub ruleset normal_paths_rules = (normal_text-names, with_separators-plain, valid-plain)

pub ruleset plain_rules = (with_separators-plain, IsPlain-with_separators, IsPlain-no_slash)

pub ruleset path_buffers_rules = (cut_some, common_steps, nat_tests, canonical_placed, take_all, length-drop, length-places, IsText-part, plain_rules)

pub ruleset last_pieces_rules = (prefix_len-le-length, ltb-false)

pub ruleset blocks_rules = (take_all, drop_at, length-places_from, ones-mask_l)

pub ruleset places_rules = (append-nil, others_ahead, drop_all, lowest_cut, length-drop, lt_of_lt_of_le, mask_l-lt, pow_mono, length-map)

pub ruleset slashed_paths_rules = (cut_at_end, to_the_end, one_piece, valid_unrefused, with_separators-plain, valid-plain, length-slice_split-le, length-map, length-drop)
