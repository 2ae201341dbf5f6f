-- Where a person would say that a call is wrong: at the start of the field, if the field accepts words.
use Rattle.std.specs.Prelude.{ℕ, ◌+◌, ◌-◌, zero, suc, ◌==◌, ◌&&◌, ◌||◌, not, Bool, true, false, if◌then◌else◌, List, [], codes, drop, filter, length, position, take, Option, Some, None}
use Rattle.std.specs.Char.{is_ascii_alphanumeric}
use Rattle.uefi_node_reader.specs.Ambiguous.{begins_with}
use Rattle.uefi_node_reader.specs.TableReading.{first_of}
use Rattle.uefi_node_reader.specs.declared.errors.faults.Choice.{Choice}
use Rattle.uefi_node_reader.specs.declared.errors.faults.Choice.TheVariants.{AcpiId, AtaChannel, AtaDrive, BootDevice, Digest, FlowControl, Guid, IpAddress, IpProtocol, Ipv4Origin, Ipv6Origin, IscsiProtocol, Login, MacAddress, PartitionFormat, SasConnection, SasLocation, SasProtocol}
use Rattle.uefi_node_reader.specs.declared.errors.faults.Expected.{Expected}
use Rattle.uefi_node_reader.specs.declared.errors.faults.Expected.TheVariants.{AsPrinted, Byte, Digits, Word}
use Rattle.uefi_node_reader.specs.declared.errors.faults.Stop.{Stop}

-- whether a call is the call of a SAS device
abbrev pub is_sas : List ℕ → Bool
is_sas call = begins_with (codes "SAS(") call || begins_with (codes "SASEx(") call

-- whether a call is the call of a serial port's flow control
abbrev pub is_flow_control : List ℕ → Bool
is_flow_control call = begins_with (codes "UARTFLOWCTRL(") call || begins_with (codes "UARTFLOWCONTROL(") call

-- whether a call begins with an IP address
abbrev pub is_internet : List ℕ → Bool
is_internet call = begins_with (codes "IPV4(") call || (begins_with (codes "IPV6(") call
    || begins_with (codes "DNS(") call)

-- whether a call begins with a GUID
abbrev pub has_guid : List ℕ → Bool
has_guid call = begins_with (codes "FV(") call || (begins_with (codes "FVFILE(") call
    || (begins_with (codes "FVVOL(") call || (begins_with (codes "MEDIA(") call
    || (begins_with (codes "VENHW(") call || (begins_with (codes "VENMSG(") call
    || begins_with (codes "VENMEDIA(") call)))))

-- what the first field of a tidied call accepts
abbrev pub first_choice : List ℕ → Option Choice
first_choice call = if begins_with (codes "ATA(") call then Some AtaChannel
    else if begins_with (codes "BBS(") call then Some BootDevice
    else if is_flow_control call then Some FlowControl
    else if begins_with (codes "ACPI(") call then Some AcpiId
    else if begins_with (codes "MAC(") call then Some MacAddress
    else if is_internet call then Some IpAddress else if has_guid call then Some Guid else None

-- what the second field of a tidied call accepts
abbrev pub second_choice : List ℕ → Option Choice
second_choice call = if begins_with (codes "ATA(") call then Some AtaDrive
    else if begins_with (codes "HD(") call then Some PartitionFormat
    else if begins_with (codes "IPV4(") call || begins_with (codes "IPV6(") call
    then Some IpProtocol else None

-- what the third field of a tidied call accepts
abbrev pub third_choice : List ℕ → Option Choice
third_choice call = if begins_with (codes "IPV4(") call then Some Ipv4Origin
    else if begins_with (codes "IPV6(") call then Some Ipv6Origin else None

-- what a later field of a tidied call accepts, by the field's number
abbrev pub later_choice : List ℕ → ℕ → Option Choice
later_choice call field = if is_sas call
    then (if field == 3 then Some SasProtocol else if field == 4 then Some SasLocation
    else if field == 5 then Some SasConnection else None)
    else if begins_with (codes "ISCSI(") call
    then (if (field == 3) || (field == 4) then Some Digest else if field == 5 then Some Login
    else if field == 6 then Some IscsiProtocol else None)
    else None

-- what a field of a tidied call accepts, by the number of commas before the field
abbrev pub choice_of : List ℕ → ℕ → Option Choice
choice_of call field = if field == 0 then first_choice call else if field == 1 then second_choice call
    else if field == 2 then third_choice call else later_choice call field

-- the text after an index, or an empty text
abbrev pub past_place : List ℕ → Option ℕ → List ℕ
past_place text None = []
past_place text (Some place) = drop (place + 1) text

-- the text after the first of these bytes, or an empty text
abbrev pub past_mark : ℕ → List ℕ → List ℕ
past_mark mark text = past_place text (position (λ c. c == mark) text)

-- a tidied call from the start of a field
abbrev pub field_on : List ℕ → ℕ → List ℕ
field_on call zero = past_mark 40 call
field_on call (suc field) = past_mark 44 (field_on call field)

-- the number of the field where this much of a tidied call is left: the number of commas before
abbrev pub field_at : List ℕ → ℕ → ℕ
field_at call left = length (filter (λ c. c == 44) (take (length call - left) call))

-- whether this is expected inside a word, or in place of a word, before this rest of a tidied call; a letter
-- or a digit in place of a comma continues the word
abbrev pub is_in_word : Expected → List ℕ → Bool
is_in_word (Byte byte) rest = not (byte == 44) || is_ascii_alphanumeric (first_of rest)
is_in_word AsPrinted rest = true
is_in_word what rest = false

-- whether this is expected in a value, of which `passed` bytes come first, only because the value has
-- another form: a MAC address without colons, or a short IPv6 address
abbrev pub is_in_value : List ℕ → Expected → ℕ → Bool
is_in_value call (Byte byte) passed = begins_with (codes "MAC(") call && ((byte == 58) && (passed == 2))
is_in_value call (Digits count) passed = begins_with (codes "IPV6(") call
is_in_value call what passed = false

-- whether a field accepts certain words, and no other values
abbrev pub is_word : Choice → Bool
is_word AcpiId = false
is_word MacAddress = false
is_word IpAddress = false
is_word Guid = false
is_word choice = true

-- whether a call that stops in a field is wrong from the start of that field on
abbrev pub is_wrong_whole : List ℕ → Stop → List ℕ → Choice → Bool
is_wrong_whole call stop field choice = (stop.left == length field) || (if is_word choice
    then is_in_word stop.expected (drop (length call - stop.left) call)
    else is_in_value call stop.expected (length field - stop.left))

-- the start of a field, where this is expected
abbrev pub field_stop : List ℕ → Choice → Stop
field_stop field choice = record { left = length field; expected = Word choice }

-- where a tidied call stops, or the start of the field in which it stops
abbrev pub word_stop : List ℕ → Stop → List ℕ → Option Choice → Stop
word_stop call stop field None = stop
word_stop call stop field (Some choice) =
    if is_wrong_whole call stop field choice then field_stop field choice else stop

-- where a tidied call is wrong, from where it stops
abbrev pub mistake : List ℕ → Stop → Stop
mistake call stop = word_stop call stop (field_on call (field_at call stop.left))
    (choice_of call (field_at call stop.left))
