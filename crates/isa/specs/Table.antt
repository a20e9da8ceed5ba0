-- The table of commands: each opcode with its code, its name and the form of its operands.
use Rattle.std.specs.Prelude.{ℕ, List, [], ◌∷◌, codes, Option, find}
use Rattle.std.specs.List.{slice_get}
use Rattle.std.specs.Str.{bytes_eq}
use Rattle.isa.specs.declared.form.Form.{Form}
use Rattle.isa.specs.declared.form.Form.TheVariants.{Rr, Ri, Rm, J}
use Rattle.isa.specs.declared.opcode.Opcode.{Opcode}
use Rattle.isa.specs.declared.opcode.Opcode.TheVariants.{Halt, Syscall, Add, Addi, Sub, Subi, Mul, Muli, Div, Divi, Not, Shl, Shli, Shr, Shri, And, Andi, Or, Ori, Xor, Xori, Itod, Dtoi, Addd, Subd, Muld, Divd, Cmp, Cmpi, Cmpd, Jmp, Jne, Jeq, Jle, Jl, Jge, Jg, Push, Pop, Lc, La, Mov, Load, Load2, Store, Store2, Loadr, Loadr2, Storer, Storer2, Prc, Call, Calli, Ret}

-- a row of the table: the code, the name, the form of the operands
pub record Entry : Type 0 where
  pub code : ℕ
  pub name : List ℕ
  pub form : Form

-- a row by its columns
abbrev pub line : ℕ → List ℕ → Form → Entry
line c n f = record { code = c; name = n; form = f }

-- the 54 rows
abbrev pub row_of : Opcode → Entry
row_of Halt = line 0 (codes "halt") Ri
row_of Syscall = line 1 (codes "syscall") Ri
row_of Add = line 2 (codes "add") Rr
row_of Addi = line 3 (codes "addi") Ri
row_of Sub = line 4 (codes "sub") Rr
row_of Subi = line 5 (codes "subi") Ri
row_of Mul = line 6 (codes "mul") Rr
row_of Muli = line 7 (codes "muli") Ri
row_of Div = line 8 (codes "div") Rr
row_of Divi = line 9 (codes "divi") Ri
row_of Not = line 10 (codes "not") Ri
row_of Shl = line 11 (codes "shl") Rr
row_of Shli = line 12 (codes "shli") Ri
row_of Shr = line 13 (codes "shr") Rr
row_of Shri = line 14 (codes "shri") Ri
row_of And = line 15 (codes "and") Rr
row_of Andi = line 16 (codes "andi") Ri
row_of Or = line 17 (codes "or") Rr
row_of Ori = line 18 (codes "ori") Ri
row_of Xor = line 19 (codes "xor") Rr
row_of Xori = line 20 (codes "xori") Ri
row_of Itod = line 21 (codes "itod") Rr
row_of Dtoi = line 22 (codes "dtoi") Rr
row_of Addd = line 23 (codes "addd") Rr
row_of Subd = line 24 (codes "subd") Rr
row_of Muld = line 25 (codes "muld") Rr
row_of Divd = line 26 (codes "divd") Rr
row_of Cmp = line 27 (codes "cmp") Rr
row_of Cmpi = line 28 (codes "cmpi") Ri
row_of Cmpd = line 29 (codes "cmpd") Rr
row_of Jmp = line 30 (codes "jmp") J
row_of Jne = line 31 (codes "jne") J
row_of Jeq = line 32 (codes "jeq") J
row_of Jle = line 33 (codes "jle") J
row_of Jl = line 34 (codes "jl") J
row_of Jge = line 35 (codes "jge") J
row_of Jg = line 36 (codes "jg") J
row_of Push = line 37 (codes "push") Ri
row_of Pop = line 38 (codes "pop") Ri
row_of Lc = line 39 (codes "lc") Ri
row_of La = line 40 (codes "la") Rm
row_of Mov = line 41 (codes "mov") Rr
row_of Load = line 42 (codes "load") Rm
row_of Load2 = line 43 (codes "load2") Rm
row_of Store = line 44 (codes "store") Rm
row_of Store2 = line 45 (codes "store2") Rm
row_of Loadr = line 46 (codes "loadr") Rr
row_of Loadr2 = line 47 (codes "loadr2") Rr
row_of Storer = line 48 (codes "storer") Rr
row_of Storer2 = line 49 (codes "storer2") Rr
row_of Prc = line 50 (codes "prc") J
row_of Call = line 51 (codes "call") Rr
row_of Calli = line 52 (codes "calli") J
row_of Ret = line 53 (codes "ret") J

-- the code of an opcode: bits 24 to 31 of its words
abbrev pub code_of : Opcode → ℕ
code_of o = (row_of o).code

-- the name of an opcode: the first word of its line
abbrev pub name_of : Opcode → List ℕ
name_of o = (row_of o).name

-- the form of an opcode's operands
abbrev pub form_of : Opcode → Form
form_of o = (row_of o).form

-- every opcode, at the place of its code
abbrev pub opcodes : List Opcode
opcodes =
    Halt ∷ Syscall ∷ Add ∷ Addi ∷ Sub ∷ Subi ∷ Mul ∷ Muli ∷ Div ∷
    Divi ∷ Not ∷ Shl ∷ Shli ∷ Shr ∷ Shri ∷ And ∷ Andi ∷ Or ∷
    Ori ∷ Xor ∷ Xori ∷ Itod ∷ Dtoi ∷ Addd ∷ Subd ∷ Muld ∷ Divd ∷
    Cmp ∷ Cmpi ∷ Cmpd ∷ Jmp ∷ Jne ∷ Jeq ∷ Jle ∷ Jl ∷ Jge ∷
    Jg ∷ Push ∷ Pop ∷ Lc ∷ La ∷ Mov ∷ Load ∷ Load2 ∷ Store ∷
    Store2 ∷ Loadr ∷ Loadr2 ∷ Storer ∷ Storer2 ∷ Prc ∷ Call ∷ Calli ∷ Ret ∷ []

-- the opcode with a code
abbrev pub opcode_at : ℕ → Option Opcode
opcode_at c = slice_get opcodes c

-- the first opcode with a name
abbrev pub opcode_named : List ℕ → Option Opcode
opcode_named w = find (λ o. bytes_eq (name_of o) w) opcodes
