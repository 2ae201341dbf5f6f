-- What a call leaves of a buffer if it adds nodes to the device path at its start.
use Rattle.std.specs.Prelude.{◌≡◌, ℕ, ◌∷◌, ◌++◌, [], List, length, Option, Some, None, Result, Ok, Err}
use Rattle.uefi_device_nodes.specs.Nodes.{Node}
use Rattle.uefi_text.specs.UnalignedCStr16.{with_prefix}
use Rattle.uefi_device_path.specs.Building.{append_refusal, grow_refusal, push_at_refusal, push_refusal, pushed_at, text_refusal}
use Rattle.uefi_device_path.specs.CheckedNodes.{path_of_bytes}
use Rattle.uefi_device_path.specs.Paths.{path_bytes}
use Rattle.uefi_device_path.specs.StyledReading.{path_read}
use Rattle.uefi_device_path.specs.declared.errors.GrowError.{GrowError}
use Rattle.uefi_device_path.specs.declared.errors.GrowError.TheVariants as grow
use Rattle.uefi_device_path.specs.declared.text.text_errors.PushTextError.{PushTextError}
use Rattle.uefi_device_path.specs.declared.text.text_errors.PushTextError.TheVariants as push
use Rattle.uefi_node_reader.specs.declared.styles.TextStyle.{TextStyle}

-- what a call leaves, given the bytes of the path that the buffer then begins with, or the error: it returns
-- their number and leaves the bytes after them unchanged, or returns the error and leaves all bytes unchanged
abbrev pub Leaves : {E : Type 0} → Result (List ℕ) E → List ℕ → Result ℕ E → List ℕ → Type 0
Leaves (Ok bytes) old result new = (result ≡ Ok (length bytes)) × (new ≡ with_prefix bytes old)
Leaves (Err error) old result new = (result ≡ Err error) × (new ≡ old)

-- what follows from a value that was read, or the error in reading it
abbrev pub once_read : {A B D E : Type 0} → (D → E) → Result A D → (A → Result B E) → Result B E
once_read error (Ok value) next = next value
once_read error (Err refusal) next = Err (error refusal)

-- the bytes of a path, unless there is an error
abbrev pub bytes_unless : {E : Type 0} → Option E → List ℕ → Result (List ℕ) E
bytes_unless None bytes = Ok bytes
bytes_unless (Some error) bytes = Err error

-- the path at the start of a buffer with one more node
abbrev pub node_pushed : Node → List ℕ → Result (List ℕ) GrowError
node_pushed node buffer = once_read grow.Path (path_of_bytes buffer) (λ nodes.
    bytes_unless (grow_refusal (push_refusal nodes node (length buffer))) (path_bytes (nodes ++ node ∷ [])))

-- the first `len` bytes of a buffer with one more node before the end node that they end with
abbrev pub node_pushed_at : ℕ → Node → List ℕ → Result (List ℕ) GrowError
node_pushed_at len node buffer = bytes_unless (push_at_refusal buffer len node) (pushed_at buffer len node)

-- the path at the start of a buffer with the nodes of another path
abbrev pub nodes_appended : List Node → List ℕ → Result (List ℕ) GrowError
nodes_appended others buffer = once_read grow.Path (path_of_bytes buffer) (λ nodes.
    bytes_unless (grow_refusal (append_refusal nodes others (length buffer))) (path_bytes (nodes ++ others)))

-- the path at the start of a buffer with the nodes of a text
abbrev pub text_pushed : TextStyle → List ℕ → List ℕ → Result (List ℕ) PushTextError
text_pushed style text buffer = once_read push.Path (path_of_bytes buffer) (λ nodes.
    once_read push.NoNode (path_read style text) (λ read.
    bytes_unless (text_refusal nodes read (length buffer)) (path_bytes (nodes ++ read))))
