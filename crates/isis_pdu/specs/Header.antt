-- The types of PDU that are read and written (ISO/IEC 10589, 9.7, 9.8, 9.10 and 9.12).
use Rattle.std.specs.Prelude.{ℕ, Option, Some, None, ◌==◌, if◌then◌else◌}
use Rattle.isis_pdu.specs.declared.kind.Kind.{Kind}
use Rattle.isis_pdu.specs.declared.kind.Kind.TheVariants.{Hello, Lsp, Csnp, Psnp}

-- the type's number
abbrev pub type_of : Kind → ℕ
type_of Hello = 17
type_of Lsp = 18
type_of Csnp = 24
type_of Psnp = 26

-- the type with a number
abbrev pub kind_of : ℕ → Option Kind
kind_of n = if n == 17 then Some Hello else if n == 18 then Some Lsp else if n == 24 then Some Csnp else if n == 26
    then Some Psnp else None

-- how many bytes stand before the TLVs, which is what the header length says
abbrev pub fixed_length : Kind → ℕ
fixed_length Hello = 20
fixed_length Lsp = 27
fixed_length Csnp = 33
fixed_length Psnp = 17

-- where the PDU length stands
abbrev pub length_place : Kind → ℕ
length_place Hello = 17
length_place Lsp = 8
length_place Csnp = 8
length_place Psnp = 8
