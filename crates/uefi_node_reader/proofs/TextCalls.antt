-- What is read of a call that holds a text is told.
use Rattle.std.proofs.Common.{◌≡◌, ℕ, Bool, true, false, cond, leb, ◌&&◌, List, [], ◌∷◌, ◌++◌, length, refl, sym, ap, subst, ◌∙◌, inl, arith}
use Rattle.std.specs.Prelude.{All, Option, Some, None, Result, Ok, Err}
use Rattle.std.specs.List.{list_all}
use Rattle.std.specs.Option.{ok_or, option_map}
use Rattle.std.specs.Result.{result_map_both}
use Rattle.std.proofs.lemmas.Bool.{and_parts}
use Rattle.std.proofs.lemmas.List.Elements.{All-append, All-cons, All-nil}
use Rattle.uefi_text.specs.Packed.{IsByte}
use Rattle.uefi_device_nodes.specs.Rows.{Form}
use Rattle.uefi_device_nodes.specs.Table.{forms}
use Rattle.uefi_device_nodes.specs.declared.node_table.rows.Mode.{Mode}
use Rattle.uefi_device_nodes.specs.declared.node_table.rows.Mode.TheVariants.{Read, Printed, Display, Libefivar, People}
use Rattle.uefi_device_nodes.specs.declared.node_table.rows.Tail.{Tail}
use Rattle.uefi_device_nodes.specs.declared.node_table.rows.Tail.TheVariants.{Ids}
use Rattle.uefi_device_nodes.specs.Nodes.{Node}
use Rattle.uefi_node_reader.specs.FieldReading.{clear_run, is_clear}
use Rattle.uefi_node_reader.specs.LenientCalls.{begins_call_name, told_in}
use Rattle.uefi_node_reader.specs.LenientFields.{after_ending, after_literal}
use Rattle.uefi_node_reader.specs.NamedFiles.{IsTold}
use Rattle.uefi_node_reader.specs.ParsedNodes.{fitting}
use Rattle.uefi_node_reader.specs.Notations.{head_in, lenient, pieces_in}
use Rattle.uefi_node_reader.specs.Stops.{◌>?◌, past, stop_at}
use Rattle.uefi_node_reader.specs.TableReading.{IsTailTold, as_ids, blank, first_of, is_empty, is_read, is_sound, tail_read}
use Rattle.uefi_node_reader.specs.TextCalls.{call_left, holds_ids, holds_text, left_of, or_commas, stop_before, text_call_told, text_left, text_stop, text_told, text_tried, texts_tried, uid_call_told, uid_told, uid_tried, words_tried}
use Rattle.uefi_node_reader.specs.declared.errors.faults.Expected.TheVariants as expected
use Rattle.uefi_node_reader.specs.declared.errors.faults.Stop.{Stop}
use Rattle.uefi_node_reader.proofs.ClearTexts.{clear_bytes, clear_takes}
use Rattle.uefi_node_reader.proofs.Groups.{table_sound}
use Rattle.uefi_node_reader.proofs.LenientFields.{SetIn, pieces_in_bytes, set_of}
use Rattle.uefi_node_reader.proofs.Literals.{bind_ok, map_ok, ok_some}
use Rattle.uefi_node_reader.proofs.TableLaws.{Sound, sound}
use Rattle.uefi_node_reader.proofs.TailLaws.{tail_takes}
use Rattle.uefi_node_reader.proofs.ToldForms.{all_told, of_form, told_as, told_in-fitting}
use Rattle.uefi_node_reader.proofs.ToldNodes.{tells_told}

-- data that do not fit a node
pub unfit : (form : Form) (content rest other : List ℕ) → None ≡ option_map (λ (x : List ℕ × List ℕ). x.0) (fitting (Some (content, rest)))
    → None ≡ told_in form (Some (content, other))
unfit form content rest other e = by (leb (length content) 0xfffb) refl e
  where
    by : (b : Bool) → leb (length content) 0xfffb ≡ b → None ≡ option_map (λ (x : List ℕ × List ℕ). x.0) (cond b (Some (content, rest)) None)
        → None ≡ told_in form (Some (content, other))
    by true p q = cc
    by false p q = sym (ap (λ (t : Bool). told_in form (cond t (Some (content, other)) None)) p) ∙ told_in-fitting form (Some (content, other))

-- what was read, by what stands after it
pub past_some : (o : Option (List ℕ × List ℕ)) (rest : List ℕ) → Some rest ≡ past o → (x : List ℕ × List ℕ) × (o ≡ Some x) × (rest ≡ x.1)
past_some None rest e = cc
past_some (Some x) rest e = let same : rest ≡ x.1 = cc in (x, refl, same)

-- where a call with a text stops
module _ (form : Form) (fixed text call : List ℕ) where
  abbrev after_pieces : List ℕ → List ℕ × List ℕ → Result Node Stop
  after_pieces content all = ok_or (told_in form (Some (all.0 ++ content, all.1))) (stop_at all.1 expected.Untold)

  abbrev after_tail : List ℕ × List ℕ → Result Node Stop
  after_tail tail = after_ending form.close (call_left call tail.1) >? pieces_in lenient form.rest fixed >? after_pieces tail.0

  -- in the text
  pub text_unread : (stop : Stop) → Err stop ≡ ok_or (past (tail_read form.tail form.close text)) (text_stop form.tail text)
      → Err stop ≡ text_told form fixed text call
  text_unread stop e = by (tail_read form.tail form.close text) refl e
    where
      by : (o : Option (List ℕ × List ℕ)) → tail_read form.tail form.close text ≡ o → Err stop ≡ ok_or (past o) (text_stop form.tail text)
          → Err stop ≡ text_told form fixed text call
      by None f h = ap (λ (s : Stop). Err s) (let same : stop ≡ text_stop form.tail text = cc in same)
          ∙ ap (λ (o : Option (List ℕ × List ℕ)). ok_or o (text_stop form.tail text) >? after_tail) (sym f)
      by (Some x) f h = cc

  module _ (tail : List ℕ × List ℕ) (read : tail_read form.tail form.close text ≡ Some tail) where
    -- at its end
    pub end_unread : (stop : Stop) → Err stop ≡ after_ending form.close (call_left call tail.1) → Err stop ≡ text_told form fixed text call
    end_unread stop e =
        ap (λ (r : Result (List ℕ) Stop). r >? pieces_in lenient form.rest fixed >? after_pieces tail.0) e
        ∙ ap (λ (o : Option (List ℕ × List ℕ)). ok_or o (text_stop form.tail text) >? after_tail) (sym read)

    -- in the fields after it
    pub fields_unread : (rest : List ℕ) (stop : Stop) → Ok rest ≡ after_ending form.close (call_left call tail.1)
        → Err stop ≡ pieces_in lenient form.rest fixed rest → Err stop ≡ text_told form fixed text call
    fields_unread rest stop start e =
        ap (λ (r : Result (List ℕ × List ℕ) Stop). r >? after_pieces tail.0) e
        ∙ ap (λ (r : Result (List ℕ) Stop). r >? pieces_in lenient form.rest fixed >? after_pieces tail.0) start
        ∙ ap (λ (o : Option (List ℕ × List ℕ)). ok_or o (text_stop form.tail text) >? after_tail) (sym read)

-- a node of a form, by its text and what follows
module _ (form : Form) (fixed text call : List ℕ) (tail : List ℕ × List ℕ) (read : tail_read form.tail form.close text ≡ Some tail)
    (rest : List ℕ) (start : Ok rest ≡ after_ending form.close (call_left call tail.1)) (all : List ℕ × List ℕ)
    (set : Ok all ≡ pieces_in lenient form.rest fixed rest) where
  pub from_text : ok_or (told_in form (Some (all.0 ++ tail.0, all.1))) (stop_at all.1 expected.Untold) ≡ text_told form fixed text call
  from_text =
      ap (λ (r : Result (List ℕ × List ℕ) Stop). r >? λ x. ok_or (told_in form (Some (x.0 ++ tail.0, x.1))) (stop_at x.1 expected.Untold)) set
      ∙ ap (λ (r : Result (List ℕ) Stop). r >? pieces_in lenient form.rest fixed
      >? λ x. ok_or (told_in form (Some (x.0 ++ tail.0, x.1))) (stop_at x.1 expected.Untold)) start
      ∙ ap (λ (o : Option (List ℕ × List ℕ)). ok_or o (text_stop form.tail text) >? λ y. after_ending form.close (call_left call y.1)
      >? pieces_in lenient form.rest fixed
      >? λ x. ok_or (told_in form (Some (x.0 ++ y.0, x.1))) (stop_at x.1 expected.Untold)) (sym read)

-- a node with these data, which its text tells
told_set : (form : Form) (content rest : List ℕ) (node : Node) → SetIn form content
    → told_in form (Some (content, rest)) ≡ Some node → IsTold node
told_set form content rest node is e =
    let told = told_as form (Some (content, rest)) node e in
    let same : content ≡ told.0.0 = ap (λ (o : Option (List ℕ × List ℕ)). data_of o) told.1 in
    subst IsTold told.3 (inl (tells_told form (of_form form told.0.0) (subst (SetIn form) same is) told.2))
  where
    data_of : Option (List ℕ × List ℕ) → List ℕ
    data_of None = []
    data_of (Some x) = x.0

module _ (form : Form) (mode : is_read form.mode ≡ true) (is_sound_form : is_sound form ≡ true) where
  is : Sound form
  is = sound form mode is_sound_form

  text_is_told : (fixed text call : List ℕ) (node : Node) → length fixed ≡ length (blank form) → All IsByte fixed
      → text_told form fixed text call ≡ Ok node → IsTold node
  text_is_told fixed text call node size bytes e =
      let tail = bind_ok _ _ node e in
      let read = ok_some (tail_read form.tail form.close text) (text_stop form.tail text) tail.0 tail.1 in
      let all = bind_ok _ _ node tail.2 in
      let start = bind_ok (after_ending form.close (call_left call tail.0.1)) _ all.0 all.1 in
      let set = pieces_in_bytes (length (blank form)) form.rest fixed start.0 all.0.0 all.0.1 is.rest_within size bytes start.2 in
      let told = tail_takes form.tail form.close text tail.0.0 tail.0.1 read in
      told_set form (all.0.0 ++ tail.0.0) all.0.1 node
      (set_of form all.0.0 tail.0.0 (set.0 ∙ is.size) set.1 told.1 told.2)
      (ok_some (told_in form (Some (all.0.0 ++ tail.0.0, all.0.1))) _ node all.2)

  head_bytes : (call : List ℕ) (head : List ℕ × List ℕ) → head_in lenient form call ≡ Ok head
      → (length head.0 ≡ length (blank form)) × All IsByte head.0
  head_bytes call head e =
      let start = bind_ok (after_literal form.start call) _ head e in
      pieces_in_bytes (length (blank form)) form.pieces (blank form) start.0 head.0 head.1 is.within refl is.bytes start.2

  text_call_is_told : (front call : List ℕ) (node : Node) → text_call_told form front call ≡ Ok node → IsTold node
  text_call_is_told front call node e =
      let head = bind_ok (head_in lenient form call) _ node e in
      let set = head_bytes call head.0 head.1 in
      text_is_told head.0.0 (or_commas form.tail (text_left form front call head.0.1)) call node set.0 set.1 head.2

  uid_is_told : form.tail ≡ Ids → (fixed text : List ℕ) (node : Node) → length fixed ≡ length (blank form) → All IsByte fixed
      → uid_told form fixed text ≡ Ok node → IsTold node
  uid_is_told ids fixed text node size bytes e = by (is_empty (clear_run (first_of form.close) text).1) e
    where
      uid : List ℕ
      uid = (clear_run (first_of form.close) text).0

      clear : list_all (is_clear (first_of form.close)) uid ≡ true
      clear = (clear_takes (first_of form.close) text).1

      strings : All IsByte (as_ids [] [] uid)
      strings = All-cons IsByte 0 _ (omega arith) (All-append IsByte uid (0 ∷ 0 ∷ []) (clear_bytes (first_of form.close) uid clear)
          (All-cons IsByte 0 (0 ∷ []) (omega arith) (All-cons IsByte 0 [] (omega arith) (All-nil IsByte))))

      told : IsTailTold form.tail form.close (as_ids [] [] uid)
      told = subst (λ (t : Tail). IsTailTold t form.close (as_ids [] [] uid)) (sym ids) ([], [], uid, refl, refl, refl, clear)

      by : (b : Bool) → cond b (ok_or (told_in form (Some (fixed ++ as_ids [] [] uid, []))) (stop_before [] expected.Untold))
          (Err (stop_before (clear_run (first_of form.close) text).1 (expected.Byte (first_of form.close)))) ≡ Ok node → IsTold node
      by true q = told_set form (fixed ++ as_ids [] [] uid) [] node (set_of form fixed (as_ids [] [] uid) (size ∙ is.size) bytes strings told)
          (ok_some (told_in form (Some (fixed ++ as_ids [] [] uid, []))) _ node q)
      by false q = cc

  uid_call_is_told : form.tail ≡ Ids → (front call : List ℕ) (node : Node) → uid_call_told form front call ≡ Ok node → IsTold node
  uid_call_is_told ids front call node e =
      let head = bind_ok (head_in lenient form call) _ node e in
      let set = head_bytes call head.0 head.1 in
      uid_is_told ids head.0.0 (left_of front call head.0.1) node set.0 set.1 head.2

-- what a form that is tried reads
tried_way : (b : Bool) (r : Result Node Stop) (node : Node)
    → cond b (result_map_both (λ (n : Node). n) (λ (s : Stop). Some s) r) (Err None) ≡ Ok node → (b ≡ true) × (r ≡ Ok node)
tried_way false r node e = cc
tried_way true r node e =
    let read = map_ok (λ (n : Node). n) (λ (s : Stop). Some s) r node e in
    (refl, read.1 ∙ ap (λ (n : Node). Ok n) read.2)

text_mode : (mode : Mode) (tail : Tail) → holds_text mode tail ≡ true → is_read mode ≡ true
text_mode Read tail e = refl
text_mode Printed tail e = cc
text_mode Display tail e = cc
text_mode Libefivar tail e = cc
text_mode People tail e = cc

ids_mode : (mode : Mode) (tail : Tail) → holds_ids mode tail ≡ true → (is_read mode ≡ true) × (tail ≡ Ids)
ids_mode People Ids e = (refl, refl)
ids_mode mode tail e = cc

text_tried_told : (front call : List ℕ) (form : Form) → is_sound form ≡ true → (node : Node) → text_tried front call form ≡ Ok node → IsTold node
text_tried_told front call form s node e =
    let way = tried_way (holds_text form.mode form.tail && begins_call_name form.start call) (text_call_told form front call) node e in
    let parts = and_parts (holds_text form.mode form.tail) (begins_call_name form.start call) way.0 in
    text_call_is_told form (text_mode form.mode form.tail parts.0) s front call node way.1

uid_tried_told : (front call : List ℕ) (form : Form) → is_sound form ≡ true → (node : Node) → uid_tried front call form ≡ Ok node → IsTold node
uid_tried_told front call form s node e =
    let way = tried_way (holds_ids form.mode form.tail && begins_call_name form.start call) (uid_call_told form front call) node e in
    let parts = and_parts (holds_ids form.mode form.tail) (begins_call_name form.start call) way.0 in
    let ids = ids_mode form.mode form.tail parts.0 in
    uid_call_is_told form ids.0 s ids.1 front call node way.1

words_tried_told : (front call : List ℕ) (form : Form) → is_sound form ≡ true → (node : Node) → words_tried front call form ≡ Ok node → IsTold node
words_tried_told front call form s node e = by (holds_ids form.mode form.tail) e
  where
    by : (b : Bool) → cond b (uid_tried front call form) (text_tried front call form) ≡ Ok node → IsTold node
    by true q = uid_tried_told front call form s node q
    by false q = text_tried_told front call form s node q

pub texts_told : (front call : List ℕ) (node : Node) → texts_tried front call ≡ Ok node → IsTold node
texts_told front call node e =
    all_told (words_tried front call) is_sound (words_tried_told front call) 0 forms table_sound None node e
