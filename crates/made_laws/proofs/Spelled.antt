-- The spelling of each instruction of the made code.
use Rattle.std.proofs.Common.{◌≡◌, ℕ, zero, suc, true, false, List, [], ◌∷◌, Some, None, refl, sym, ap, inl, inr, lit<}
use Rattle.std.specs.Prelude.{ℤ, pos, slice_get, unwrap_or}
use Rattle.x64_syntax.specs.declared.instr.Instr.{Instr}
use Rattle.x64_syntax.specs.declared.instr.Instr.TheVariants as instr
use Rattle.x64_syntax.specs.declared.operand.Operand.{Operand}
use Rattle.x64_syntax.specs.declared.operand.Operand.TheVariants as operand
use Rattle.x64_syntax.specs.declared.operand.Width.TheVariants as width
use Rattle.x64_decode.specs.declared.row.Code.TheVariants.{One, Two, Three}
use Rattle.x64_decode.specs.declared.row.Row.{Row}
use Rattle.x64_decode.specs.declared.row.Before.TheVariants as before
use Rattle.x64_decode.specs.declared.row.Name.TheVariants as name
use Rattle.x64_decode.specs.declared.row.Size.TheVariants as size
use Rattle.x64_decode.specs.Bytes.{is_prefix, is_rex, has, two_bytes, four_bytes, signed_byte}
use Rattle.x64_decode.specs.Fronts.{front_of, operand_width}
use Rattle.x64_decode.specs.Meaning.{meaning}
use Rattle.x64_decode.specs.Operands.{is_memory, has_sib, is_rip, lacks_base, sib_size, displacement_size, modrm_size, has_modrm, operand_size, immediate_size, rest_size, register, displacement, index_of, scale_of, base_of, memory_of, rm_operand}
use Rattle.x64_decode.specs.Spelling.{StandsIn, Spells, takes_memory, takes_register, modrm_allows, allows}
use Rattle.x64_decode.specs.Table.{table, two, one, none, only, LL, Ev, Gv, rv, iv, ib}
use Rattle.gen_input.specs.Made.{cells_to_rdi, store, load, locked_add, return}

-- a register of 32 or 64 bits
abbrev pub whole_register : ℕ → Operand
whole_register number = operand.Reg (record { number = number; high = false })

-- [rdi+offset]
abbrev pub cell : ℤ → Operand
cell offset = operand.Mem (record { base = Some 7; index = None; scale = 1; offset = offset; rip = false })

-- mov edi, 800000
abbrev pub cells_instr : Instr
cells_instr = instr.Mov width.Long (whole_register 7) (operand.Imm 0x800000)

-- mov [rdi+8], rax
abbrev pub store_instr : Instr
store_instr = instr.Mov width.Quad (cell (pos 8)) (whole_register 0)

-- mov rax, [rdi+16]
abbrev pub load_instr : Instr
load_instr = instr.Mov width.Quad (whole_register 0) (cell (pos 16))

-- lock xadd [rdi+24], rax
abbrev pub add_instr : Instr
add_instr = instr.Xadd width.Quad (cell (pos 24)) (whole_register 0) true

-- jne to the next instruction
abbrev pub jump_instr : Instr
jump_instr = instr.Jcc (record { code = 5 }) 0

-- the bytes of mfence
abbrev pub fence : List ℕ
fence = 0x0F ∷ 0xAE ∷ 0xF0 ∷ []

-- those of jne
abbrev pub jump : List ℕ
jump = 0x75 ∷ 0x00 ∷ []

-- what stands at a place of a list of rows stands in it
listed_at : (rows : List Row) (k : ℕ) (r : Row) → slice_get rows k ≡ Some r → StandsIn rows r
listed_at [] k r e = absurd cc
listed_at (x ∷ rows) zero r e = inl (sym (ap (λ o. unwrap_or o x) e))
listed_at (x ∷ rows) (suc k) r e = inr (listed_at rows k r e)

cells_row : StandsIn table (two (One 0xBF) size.Operand rv iv name.Mov)
unfolding table
cells_row = listed_at table 133 (two (One 0xBF) size.Operand rv iv name.Mov) refl

store_row : StandsIn table (two (One 0x89) size.Operand Ev Gv name.Mov)
unfolding table
store_row = listed_at table 207 (two (One 0x89) size.Operand Ev Gv name.Mov) refl

load_row : StandsIn table (two (One 0x8B) size.Operand Gv Ev name.Mov)
unfolding table
load_row = listed_at table 209 (two (One 0x8B) size.Operand Gv Ev name.Mov) refl

add_row : StandsIn table (LL (two (Two 0x0F 0xC1) size.Operand Ev Gv name.Xadd))
unfolding table
add_row = listed_at table 253 (LL (two (Two 0x0F 0xC1) size.Operand Ev Gv name.Xadd)) refl

fence_row : StandsIn table (only before.Nothing (none (Three 0x0F 0xAE 0xF0) size.Operand name.Mfence))
unfolding table
fence_row = listed_at table 258 (only before.Nothing (none (Three 0x0F 0xAE 0xF0) size.Operand name.Mfence)) refl

jump_row : StandsIn table (only before.NoWord (one (One 0x75) size.Quad ib (name.Jcc 5)))
unfolding table
jump_row = listed_at table 161 (only before.NoWord (one (One 0x75) size.Quad ib (name.Jcc 5))) refl

return_row : StandsIn table (only before.NoWord (none (One 0xC3) size.Quad name.Ret))
unfolding table
return_row = listed_at table 223 (only before.NoWord (none (One 0xC3) size.Quad name.Ret)) refl

pub cells_spelled : Spells cells_to_rdi cells_instr
unfolding is_prefix is_rex has two_bytes four_bytes front_of operand_width meaning has_modrm operand_size immediate_size rest_size register allows
cells_spelled = record {
  prefixes = [];
  rex = None;
  row = two (One 0xBF) size.Operand rv iv name.Mov;
  body = cells_to_rdi;
  parts = refl;
  are_bytes = (lit< tt, (lit< tt, (lit< tt, (lit< tt, (lit< tt, tt)))));
  are_prefixes = tt;
  is_rex = tt;
  listed = cells_row;
  spelled = record { rest = 0x00 ∷ 0x00 ∷ 0x80 ∷ 0x00 ∷ []; parts = refl; allowed = refl; whole = refl; means = refl };
}

pub store_spelled : Spells store store_instr
unfolding is_prefix is_rex has signed_byte front_of operand_width meaning is_memory has_sib is_rip lacks_base sib_size displacement_size modrm_size has_modrm operand_size immediate_size rest_size register displacement index_of scale_of base_of memory_of rm_operand takes_memory takes_register modrm_allows allows
store_spelled = record {
  prefixes = [];
  rex = Some 0x48;
  row = two (One 0x89) size.Operand Ev Gv name.Mov;
  body = 0x89 ∷ 0x47 ∷ 0x08 ∷ [];
  parts = refl;
  are_bytes = (lit< tt, (lit< tt, (lit< tt, (lit< tt, tt))));
  are_prefixes = tt;
  is_rex = refl;
  listed = store_row;
  spelled = record { rest = 0x47 ∷ 0x08 ∷ []; parts = refl; allowed = refl; whole = refl; means = refl };
}

pub load_spelled : Spells load load_instr
unfolding is_prefix is_rex has signed_byte front_of operand_width meaning is_memory has_sib is_rip lacks_base sib_size displacement_size modrm_size has_modrm operand_size immediate_size rest_size register displacement index_of scale_of base_of memory_of rm_operand takes_memory takes_register modrm_allows allows
load_spelled = record {
  prefixes = [];
  rex = Some 0x48;
  row = two (One 0x8B) size.Operand Gv Ev name.Mov;
  body = 0x8B ∷ 0x47 ∷ 0x10 ∷ [];
  parts = refl;
  are_bytes = (lit< tt, (lit< tt, (lit< tt, (lit< tt, tt))));
  are_prefixes = tt;
  is_rex = refl;
  listed = load_row;
  spelled = record { rest = 0x47 ∷ 0x10 ∷ []; parts = refl; allowed = refl; whole = refl; means = refl };
}

pub add_spelled : Spells locked_add add_instr
unfolding is_prefix is_rex has signed_byte front_of operand_width meaning is_memory has_sib is_rip lacks_base sib_size displacement_size modrm_size has_modrm operand_size immediate_size rest_size register displacement index_of scale_of base_of memory_of rm_operand takes_memory takes_register modrm_allows allows
add_spelled = record {
  prefixes = 0xF0 ∷ [];
  rex = Some 0x48;
  row = LL (two (Two 0x0F 0xC1) size.Operand Ev Gv name.Xadd);
  body = 0x0F ∷ 0xC1 ∷ 0x47 ∷ 0x18 ∷ [];
  parts = refl;
  are_bytes = (lit< tt, (lit< tt, (lit< tt, (lit< tt, (lit< tt, (lit< tt, tt))))));
  are_prefixes = (refl, tt);
  is_rex = refl;
  listed = add_row;
  spelled = record { rest = 0x47 ∷ 0x18 ∷ []; parts = refl; allowed = refl; whole = refl; means = refl };
}

pub fence_spelled : Spells fence instr.Mfence
unfolding is_prefix is_rex has front_of operand_width meaning has_modrm operand_size immediate_size rest_size allows
fence_spelled = record {
  prefixes = [];
  rex = None;
  row = only before.Nothing (none (Three 0x0F 0xAE 0xF0) size.Operand name.Mfence);
  body = fence;
  parts = refl;
  are_bytes = (lit< tt, (lit< tt, (lit< tt, tt)));
  are_prefixes = tt;
  is_rex = tt;
  listed = fence_row;
  spelled = record { rest = []; parts = refl; allowed = refl; whole = refl; means = refl };
}

pub jump_spelled : Spells jump jump_instr
unfolding is_prefix is_rex has front_of operand_width meaning has_modrm operand_size immediate_size rest_size allows
jump_spelled = record {
  prefixes = [];
  rex = None;
  row = only before.NoWord (one (One 0x75) size.Quad ib (name.Jcc 5));
  body = jump;
  parts = refl;
  are_bytes = (lit< tt, (lit< tt, tt));
  are_prefixes = tt;
  is_rex = tt;
  listed = jump_row;
  spelled = record { rest = 0x00 ∷ []; parts = refl; allowed = refl; whole = refl; means = refl };
}

pub return_spelled : Spells return instr.Ret
unfolding is_prefix is_rex has front_of operand_width meaning has_modrm operand_size immediate_size rest_size allows
return_spelled = record {
  prefixes = [];
  rex = None;
  row = only before.NoWord (none (One 0xC3) size.Quad name.Ret);
  body = return;
  parts = refl;
  are_bytes = (lit< tt, tt);
  are_prefixes = tt;
  is_rex = tt;
  listed = return_row;
  spelled = record { rest = []; parts = refl; allowed = refl; whole = refl; means = refl };
}
