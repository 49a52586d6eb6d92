-- `Fault` as the borrow checker's rules name it, for the proofs of functions over slices of it. Assumes nothing.
--     R, ty, behind        the type; its MIR type by value; and behind a reference, where MIR has the bare name
--     mut_at, shr_at       a `&mut [Fault]` and a `&[Fault]` at the lifetime that stands k-th in a signature
--     mut_now, shr_now     the same at one that is made for a call
--     elem                 the element of a list: it is Copy and has 16 bytes, and a read past the end, which never comes, would give `no_fault`
use mathlib.Core.Path.{refl}
use Prim.Native.Nat.{ℕ}
use mir.Syntax.{Ty, ty_ref, named, erased, mut, imm}
use denote.Memory.{pointee}
use denote.RattleType.{RattleType}
use denote.Struct.Declared.{row}
use denote.Struct.Laws.{copy_row_laws}
use borrow.Table.Copies.{c_struct, parts_laws}
use borrow.Table.Elements.{at_mul}
use Rattle.faults.specs.Records.{no_fault}
use Rattle.faults.specs.contracts.Fault.{the_type, the_row}
use Rattle.faults.proofs.Fault.TheLaws as Laws
use Rattle.walk.proofs.Walk.{Elem}

abbrev pub R : RattleType
R = row the_type

abbrev pub ty : Ty
ty = Laws.mir

abbrev pub behind : Ty
behind = pointee the_row.written

abbrev pub mut_at : ℕ → Ty
mut_at k = ty_ref (named k) mut behind

abbrev pub shr_at : ℕ → Ty
shr_at k = ty_ref (named k) imm behind

abbrev pub mut_now : Ty
mut_now = ty_ref erased mut behind

abbrev pub shr_now : Ty
shr_now = ty_ref erased imm behind

abbrev pub elem : Elem
elem = record {
  R = R;
  laws = parts_laws the_type (copy_row_laws the_type.parts Laws.the_copy);
  one = refl;
  cp = c_struct the_type Laws.the_laws Laws.the_copy;
  dv = no_fault;
  size = 16;
  places = λ i o. at_mul o 16 i;
}
