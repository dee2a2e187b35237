use Rattle.std.specs.Prelude.{ℕ, ◌+◌, ◌-◌, ◌*◌, ◌%◌, List, [], length, ◌&&◌, ◌==◌, nat_le, if◌then◌else◌, Option, Some, None, Result, Ok, Err, codes, fold, unwrap_or}
use Rattle.std.specs.List.{list_all}
use Rattle.std.specs.Option.{option_map}
use Rattle.std.specs.Str.{bytes_eq}
use Rattle.hex.specs.Hex.{decode_of, hex_digit_value, is_hex_digit}
use Rattle.hex.specs.declared.error.FromHexError.{FromHexError}
use Rattle.spb_types.specs.Name.{is_name, is_digit}
use Rattle.spb_types.specs.declared.address.Mac.{Mac}
use Rattle.spb_types.specs.declared.service.SourceId.{SourceId}
use Rattle.spb_types.specs.declared.entry_word.EntryWord.{EntryWord}
use Rattle.spb_types.specs.declared.entry_word.EntryWord.TheVariants.{Start, Before, Unreached}
use Rattle.spb_types.specs.declared.link.Side.{Side}
use Rattle.spb_types.specs.declared.link.Side.TheVariants.{A, B}
use Rattle.spb_types.specs.declared.link.Dir.{Dir}
use Rattle.spb_types.specs.declared.link.Dir.TheVariants.{Ab, Ba}
use Rattle.spb_types.specs.declared.service.Mode.{Mode}
use Rattle.spb_types.specs.declared.service.Mode.TheVariants.{Both, Send, Recv}

-- what a word means in each of its forms, or None where it isn't of that form

-- 1 to 16 letters, digits, `_` or `-`, with a letter first
unfoldable pub name : List ℕ → Option (List ℕ)
name word = if is_name word then Some word else None

-- the number that decimal digits write
abbrev pub decimal : List ℕ → ℕ
decimal digits = fold (λ value digit. value * 10 + (digit - 48)) 0 digits

-- 1 to 10 decimal digits
unfoldable pub number : List ℕ → Option ℕ
number word =
    if nat_le 1 (length word) && nat_le (length word) 10 && list_all is_digit word then Some (decimal word) else None

-- the bytes that hexadecimal digits write, two for each, in either case
abbrev pub bytes_in : Result (List ℕ) FromHexError → List ℕ
bytes_in (Ok bytes) = bytes
bytes_in (Err e) = []

abbrev pub decoded : List ℕ → List ℕ
decoded digits = bytes_in (decode_of digits)

-- the number that hexadecimal digits write, in either case
abbrev pub hexadecimal : List ℕ → ℕ
hexadecimal digits = fold (λ value digit. value * 16 + unwrap_or (hex_digit_value digit) 0) 0 digits

-- 12 hexadecimal digits
unfoldable pub system : List ℕ → Option Mac
system word = if (length word == 12) && list_all is_hex_digit word then Some (record { bytes = decoded word }) else None

-- 5 hexadecimal digits
unfoldable pub source : List ℕ → Option SourceId
source word =
    if (length word == 5) && list_all is_hex_digit word then Some (record { value = hexadecimal word }) else None

-- a positive even number of hexadecimal digits
unfoldable pub frame : List ℕ → Option (List ℕ)
frame word =
    if nat_le 1 (length word) && (length word % 2 == 0) && list_all is_hex_digit word then Some (decoded word) else None

-- `ab` or `ba`
unfoldable pub dir : List ℕ → Option Dir
dir word = if bytes_eq word (codes "ab") then Some Ab else (if bytes_eq word (codes "ba") then Some Ba else None)

-- `both`, `send` or `recv`
unfoldable pub mode : List ℕ → Option Mode
mode word =
    if bytes_eq word (codes "both") then Some Both
    else (if bytes_eq word (codes "send") then Some Send
    else (if bytes_eq word (codes "recv") then Some Recv else None))

-- `a` or `b`
unfoldable pub side : List ℕ → Option Side
side word = if bytes_eq word (codes "a") then Some A else (if bytes_eq word (codes "b") then Some B else None)

-- `-`, `.` or a name
unfoldable pub entry : List ℕ → Option EntryWord
entry word =
    if bytes_eq word (codes "-") then Some Start
    else (if bytes_eq word (codes ".") then Some Unreached else option_map Before (name word))
