-- All texts are ASCII.
use Rattle.std.proofs.Common.{◌≡◌, ℕ, true, nat_lt, List, [], ◌∷◌, refl}
use Rattle.std.specs.Prelude.{drop, slice_index}
use Rattle.std.specs.List.{list_all}
use Rattle.std.specs.Str.{IsAscii, IsUtf8}
use Rattle.std.proofs.lemmas.Str.{IsAscii-drop, IsAscii-take, IsUtf8-from_ascii}
use Rattle.std.proofs.lemmas.Str.Ascii.{IsAscii-cons, IsAscii-nil}
use Rattle.std.proofs.lemmas.Bool.{and_parts, ltb-true}
use Rattle.uefi_device_nodes.specs.Parts.{part_of}
use Rattle.uefi_node_steps.specs.declared.packed.TheConstants.{TEXTS, TEXT_STARTS}

ascii : (bytes : List ℕ) → list_all (λ b. nat_lt b 128) bytes ≡ true → IsAscii bytes
ascii [] e = IsAscii-nil
ascii (b ∷ bytes) e = let parts = and_parts (nat_lt b 128) (list_all (λ b. nat_lt b 128) bytes) e in
    IsAscii-cons b bytes (ltb-true b 128 parts.0) (ascii bytes parts.1)

-- a part of the texts is a Rust text, since each byte is ASCII: computed
pub texts_utf8 : (number : ℕ) → IsUtf8 (part_of TEXTS TEXT_STARTS number)
texts_utf8 number = IsUtf8-from_ascii _ (IsAscii-take (drop (slice_index TEXT_STARTS number) TEXTS) _ (IsAscii-drop TEXTS (slice_index TEXT_STARTS number) (ascii TEXTS refl)))
