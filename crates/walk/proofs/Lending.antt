-- Slices that are passed on: what is read of one, and how a `&mut [R]` is lent to a call. Assumes nothing.
--     is                                what a row holds, as it stands
--     mut_all, mut_ptr, mut_len         a `&mut [R]`: the reference, its pointer and its length; shr_all, shr_ptr, shr_len of a `&[R]`
--     begins, ends, forgets             a lifetime that is made for a call
--     lends, gathers, backs             the slice is lent for it as a `&mut`: a pointer, which a count makes a slice; and is back
--     shares, copies_lend, unshares     it is lent as a `&`, as it can be where R is Copy, and is back
use mathlib.Core.Path.{◌≡◌}
use mathlib.Core.List.{List, [], ◌∷◌}
use mathlib.Core.Option.{some}
use Prim.Native.Nat.{ℕ, zero, ◌+◌}
use lib.Dec.{T}
use mir.Syntax.{Ty, Body, addr_of, aggregate, field, tcons, tnil, ty_int, ty_ref, named, imm, w32, w64, deref, erased, assign, place, copy}
use mir.Val.{vptr, has_ty}
use prog.Wp.{spot_of}
use denote.RattleType.{RattleType, RowLaws}
use denote.Memory.{lone}
use denote.Ref.{MutBor}
use denote.Slice.{slice_ty, slice_val}
use prog.Memory.{field_at, field_of}
use borrow.Table.Owned.{ShrSlice}
use borrow.Table.Row.{Row, Rho, lft, Cx, Life, IsTok, Fresh, alive, dead, off, get_life, set_life, get_row}
use borrow.Table.Rows.{sslice}
use borrow.Table.Reads.{ReadsAs, ReadsAt, As, as_is, ptr_val, ptr_valᵐ}
use borrow.Table.Own.{Told}
use borrow.Table.Copies.{Cp}
use borrow.Table.Referent.{rt_f, f_int}
use borrow.Table.Typed.{Outs, ent₁, ent₂, tab₂, pass}
use borrow.Rule.Scalar.{Oper, op_o, HasO}
use borrow.Rule.Slice.Shared.{slice_v, slice_vᵐ, len_v, len_vᵐ, reads_sslice, reads_sslice_ptr, reads_sslice_len, room_sslice}
use borrow.Rule.Array.Share.{LendsEach}
use borrow.Rule.SharedLend.{each_copy}
use borrow.Rule.Token.Open.{Takes-whole}
use borrow.Rule.Lifetime.{Begun, Ended, Forgot, g_begin, g_end, g_forget}
use borrow.Rule.Slice.Relend.{AfterLend as AfterRelend, AfterAgg, AfterBack, Owns, slptr, mslice_owed, reads_owed_len, Φsl_relend, Φsl_aggregate}
use borrow.Rule.Slice.Relend.{Φback_sl, t_sl_relend, t_sl_aggregate, g_back_sl}
use borrow.Rule.Slice.Reshare.{mslice_owed_s, reads_owed_s_len, AfterReshare, AfterBackShr, Φsl_reshare, Φback_sl_shr, t_sl_reshare_as, g_back_sl_shr}
use borrow.Rule.Slice.Mut.{mslice, msleft, reads_mslice, reads_mslice_ptr, reads_mslice_len}
use borrow.Kind.ShrRef.{Spares}
use borrow.Kind.ShrSlice.{Spares-sslice}
use borrow.Fn.Frame.{EnvOf}
use Rattle.walk.proofs.Walk.{Model, Room, Line, Code, step_by}

-- a row as it stands
abbrev pub is : (r : Row) (w : Model) → As w.𝓛 r r (λ x. x)
is r w = as_is w.𝓛 r

-- a `&mut [R]` at the slot α: the whole reference, its pointer and its length
module _ (R : RattleType) (τ : Ty) (α : ℕ) where
  abbrev pub mut_all : (w : Model) → ReadsAs w.𝓛 (mslice R τ α) (slice_ty τ) slice_vᵐ
  mut_all w = reads_mslice w.𝓛 R τ α

  abbrev pub mut_ptr : (d : ℕ) → field_at zero (tcons τ (tcons (ty_int w64) tnil)) 0 ≡ some (τ, d) → (w : Model) → ReadsAt w.𝓛
      (mslice R τ α) τ (zero + d) ptr_valᵐ
  mut_ptr d e w = reads_mslice_ptr w.𝓛 R τ α d e

  abbrev pub mut_len : (d : ℕ) → field_at zero (tcons τ (tcons (ty_int w64) tnil)) 1 ≡ some (ty_int w64, d) → (w : Model) → ReadsAt
      w.𝓛 (mslice R τ α) (ty_int w64) (zero + d) len_vᵐ
  mut_len d e w = reads_mslice_len w.𝓛 R τ α d e

  -- and the length of one that is lent, as a `&mut` and as a `&`
  abbrev pub owed_len : (β : ℕ) (l : Life) (d : ℕ) → field_at zero (tcons τ (tcons (ty_int w64) tnil)) 1 ≡ some (ty_int w64, d) → (w : Model)
      → ReadsAt w.𝓛 (mslice_owed R τ α β l) (ty_int w64) (zero + d) (λ x. len_vᵐ x.0)
  owed_len β l d e w = reads_owed_len w.𝓛 R τ α β l d e

  abbrev pub shown_len : (β : ℕ) (l : Life) (d : ℕ) → field_at zero (tcons τ (tcons (ty_int w64) tnil)) 1 ≡ some (ty_int w64, d) → (w : Model)
      → ReadsAt w.𝓛 (mslice_owed_s R τ α β l) (ty_int w64) (zero + d) (λ x. len_vᵐ x)
  shown_len β l d e w = reads_owed_s_len w.𝓛 R τ α β l d e

  -- a `&[R]`: the same, that it stays where it is passed on, and that it can be given up
  abbrev pub shr_all : (w : Model) → ReadsAs w.𝓛 (sslice R τ α) (slice_ty τ) slice_v
  shr_all w = reads_sslice w.𝓛 R τ α

  abbrev pub shr_ptr : (d : ℕ) → field_at zero (tcons τ (tcons (ty_int w64) tnil)) 0 ≡ some (τ, d) → (w : Model) → ReadsAt w.𝓛
      (sslice R τ α) τ (zero + d) ptr_val
  shr_ptr d e w = reads_sslice_ptr w.𝓛 R τ α d e

  abbrev pub shr_len : (d : ℕ) → field_at zero (tcons τ (tcons (ty_int w64) tnil)) 1 ≡ some (ty_int w64, d) → (w : Model) → ReadsAt
      w.𝓛 (sslice R τ α) (ty_int w64) (zero + d) len_v
  shr_len d e w = reads_sslice_len w.𝓛 R τ α d e

  abbrev pub shr_stays : RowLaws R → (w : Model) → Spares w.𝓛 (sslice R τ α) (λ ρ x. (ShrSlice erased (lft ρ α) R).own_val x)
  shr_stays lw w = Spares-sslice w.𝓛 R lw τ α

  abbrev pub let_go_shr : Room (sslice R τ α) (slice_ty τ)
  let_go_shr w = room_sslice w.𝓛 R τ α

-- elements of a type that is Copy are lent as a `&`, whatever the slots hold
abbrev pub copies_lend : (R : RattleType) → RowLaws R → Cp R → (P : Rho → Type 0) (S : List Life) (β : ℕ) (w : Model) → LendsEach w.𝓛 P S R β
copies_lend R lw c P S β w = each_copy w.𝓛 P S R lw β c

-- a word of 32 bits, and a `&[u32]` at the lifetime that stands k-th in a signature
abbrev pub word : RattleType
word = rt_f (f_int w32)

abbrev pub words_at_lem : ℕ → Ty
words_at_lem k = ty_ref (named k) imm (ty_int w32)

module _ {tys : List Ty} {bs : List ℕ} {Kn : Model → Type 1} where
  -- a lifetime is begun, ended and forgotten
  abbrev pub begins : {Γ : Cx} {b : Body} {Δ : Outs} (α : ℕ) → Fresh α Γ.locals → Code tys bs Kn (Begun Γ α) b Δ → Code tys bs Kn Γ b Δ
  begins {Γ} α e c = step_by (pass Γ (Begun Γ α) (λ u. u)) (λ w k. g_begin w.𝓛 (EnvOf w.𝓛 tys bs) Γ α e) c

  abbrev pub ends : {Γ : Cx} {b : Body} {Δ : Outs} (α : ℕ) → get_life α Γ.slots ≡ alive → Code tys bs Kn (Ended Γ α) b Δ → Code tys bs Kn Γ b Δ
  ends {Γ} α e c = step_by (pass Γ (Ended Γ α) (λ u. u)) (λ w k. g_end w.𝓛 (EnvOf w.𝓛 tys bs) Γ α e) c

  abbrev pub forgets : {Γ : Cx} {b : Body} {Δ : Outs} (α : ℕ) (l : Life) → get_life α Γ.slots ≡ l → Code tys bs Kn (Forgot Γ α) b Δ →
      Code tys bs Kn Γ b Δ
  forgets {Γ} α l e c = step_by (pass Γ (Forgot Γ α) (λ u. u)) (λ w k. g_forget w.𝓛 (EnvOf w.𝓛 tys bs) Γ α l e) c

  -- a `&mut [R]` is lent again for the lifetime β, as a pointer; the pointer and a count make a slice reference; and what was lent is back
  abbrev pub lends : {Γ : Cx} (R : RattleType) (nm nd α β : ℕ) (τ τ' : Ty) (l : Life) (d₀ : ℕ)
      (hm : (ent₁ Γ nm nd).1.Mod → MutBor (List R.Denot)) → ((w : Model) → As w.𝓛 (ent₁ Γ nm nd).1 (mslice R τ α) hm) →
      Room (ent₂ Γ nm nd).1 τ' → get_life α Γ.slots ≡ l → IsTok l
      → ((w : Model) → field_of (spot_of w.𝓤 w.𝓛.H (EnvOf w.𝓛 tys bs) (ent₁ Γ nm nd).0).0 0 ≡ some (τ, d₀)) → field_at zero
      (tcons τ (tcons (ty_int w64) tnil)) 0 ≡ some (τ, d₀) → ((w : Model) → (spot_of w.𝓤 w.𝓛.H (EnvOf w.𝓛 tys bs)
      (ent₂ Γ nm nd).0).0 ≡ τ')
      → ((b o : ℕ) → T (has_ty τ' (vptr b o))) → Line tys bs Kn Γ (assign (place (ent₂ Γ nm nd).0 [])
      (addr_of (place (ent₁ Γ nm nd).0 (field 0 ∷ deref (lone R.mir) ∷ [])))) (AfterRelend R Γ nm nd α β τ τ' l)
  lends {Γ} R nm nd α β τ τ' l d₀ hm a r e t f g s h = record {
    φ = Φsl_relend R Γ nm nd α β τ τ' l hm;
    ok = λ w k. t_sl_relend w.𝓛 (EnvOf w.𝓛 tys bs) R w.𝓣 Γ nm nd α β τ τ' l d₀ hm (a w) (r w) e t
        (f w) g (s w) h;
  }

  abbrev pub gathers : {Γ : Cx} (R : RattleType) (O : Owns R) (np nd β : ℕ) (τp τf : Ty)
      (hp : (ent₁ Γ np nd).1.Mod → O.Of) (n : Oper (tab₂ Γ np nd)) →
      ((w : Model) → As w.𝓛 (ent₁ Γ np nd).1 (slptr R O τp β) hp) → Room (ent₂ Γ np nd).1 (slice_ty τf)
      → ((w : Model) → HasO w.𝓛 (EnvOf w.𝓛 tys bs) (tab₂ Γ np nd) n) →
      ((w : Model) → (spot_of w.𝓤 w.𝓛.H (EnvOf w.𝓛 tys bs) (ent₁ Γ np nd).0).0 ≡ τp) →
      ((w : Model) → (spot_of w.𝓤 w.𝓛.H (EnvOf w.𝓛 tys bs) (ent₂ Γ np nd).0).0 ≡ slice_ty τf)
      → ((b o k : ℕ) → T (has_ty (slice_ty τf) (slice_val (b, o) k))) → Line tys bs Kn Γ
      (assign (place (ent₂ Γ np nd).0 []) (aggregate (copy (place (ent₁ Γ np nd).0 []) ∷ op_o (tab₂ Γ np nd) n ∷ [])))
      (AfterAgg R O Γ np nd β τp τf)
  gathers {Γ} R O np nd β τp τf hp n a r h s s' t = record {
    φ = Φsl_aggregate R O Γ np nd β τp τf hp n;
    ok = λ w k. t_sl_aggregate w.𝓛 (EnvOf w.𝓛 tys bs) R w.𝓣 O Γ np nd β τp τf hp n (a w) (r w) (h w)
        (s w) (s' w) t;
  }

  abbrev pub backs : {Γ : Cx} {b : Body} {Δ : Outs} (R : RattleType) (nd nm α β : ℕ) (τ τ' : Ty) (l : Life)
      (hd : (ent₁ Γ nd nm).1.Mod → MutBor (List R.Denot)) (hm : (ent₂ Γ nd nm).1.Mod → MutBor (List R.Denot) × ℕ)
      → ((w : Model) → As w.𝓛 (ent₁ Γ nd nm).1 (msleft R τ') hd) →
      ((w : Model) → As w.𝓛 (ent₂ Γ nd nm).1 (mslice_owed R τ α β l) hm) → get_life β Γ.slots ≡ dead → get_life α
      (set_life β dead (set_life β off Γ.slots)) ≡ off
      → Code tys bs Kn (AfterBack R Γ nd nm α β τ τ' l) b Δ → Code tys bs Kn Γ b Δ
  backs {Γ} R nd nm α β τ τ' l hd hm a a' e e' c = step_by (Φback_sl R Γ nd nm α β τ τ' l hd hm)
      (λ w k. g_back_sl w.𝓛 (EnvOf w.𝓛 tys bs) R Γ nd nm α β τ τ' l hd hm (a w) (a' w) e e') c

  -- a `&mut [R]` is lent as a `&` for the lifetime β, as a pointer, and is back as it was. What a `&` to an R holds has its laws, and elements
  -- of R are lent as a `&` with the slots as they then are: of a type that is Copy, `copies_lend` says so
  abbrev pub shares : {Γ : Cx} (R : RattleType) → RowLaws R → (P : Rho → Type 0) → ((w : Model) → Told w.𝓛 Γ.slots P) → (nm nd α β : ℕ)
      (τ τ' : Ty) (l : Life) (d₀ : ℕ) → ((w : Model) → LendsEach w.𝓛 P (set_life α off Γ.slots) R β) →
      (hm : (ent₁ Γ nm nd).1.Mod → MutBor (List R.Denot)) → ((w : Model) → As w.𝓛 (ent₁ Γ nm nd).1 (mslice R τ α) hm) →
      Room (ent₂ Γ nm nd).1 τ' → get_life α Γ.slots ≡ l → IsTok l
      → ((w : Model) → field_of (spot_of w.𝓤 w.𝓛.H (EnvOf w.𝓛 tys bs) (ent₁ Γ nm nd).0).0 0 ≡ some (τ, d₀)) → field_at zero
      (tcons τ (tcons (ty_int w64) tnil)) 0 ≡ some (τ, d₀) → ((w : Model) → (spot_of w.𝓤 w.𝓛.H (EnvOf w.𝓛 tys bs)
      (ent₂ Γ nm nd).0).0 ≡ τ')
      → ((b o : ℕ) → T (has_ty τ' (vptr b o))) → Line tys bs Kn Γ (assign (place (ent₂ Γ nm nd).0 [])
      (addr_of (place (ent₁ Γ nm nd).0 (field 0 ∷ deref (lone R.mir) ∷ [])))) (AfterReshare R Γ nm nd α β τ τ' l)
  shares {Γ} R lw P told nm nd α β τ τ' l d₀ each hm a r e t f g s h = record {
    φ = Φsl_reshare R Γ nm nd α β τ τ' l hm;
    ok = λ w k. t_sl_reshare_as w.𝓛 (EnvOf w.𝓛 tys bs) R w.𝓣 lw P Γ nm nd α β τ τ' l (set_life α off Γ.slots) d₀ hm (told w) (each w)
        (a w) (r w) (Takes-whole w.𝓛 α Γ.slots l e t) (f w) g (s w) h;
  }

  abbrev pub unshares : {Γ : Cx} {b : Body} {Δ : Outs} (R : RattleType) (nm α β : ℕ) (τ : Ty) (l : Life)
      (hm : (get_row nm Γ.locals).1.Mod → MutBor (List R.Denot)) →
      ((w : Model) → As w.𝓛 (get_row nm Γ.locals).1 (mslice_owed_s R τ α β l) hm)
      → get_life β Γ.slots ≡ dead → get_life α (set_life β dead (set_life β off Γ.slots)) ≡ off → Code tys bs Kn
      (AfterBackShr R Γ nm α β τ l) b Δ → Code tys bs Kn Γ b Δ
  unshares {Γ} R nm α β τ l hm a e e' c = step_by (Φback_sl_shr R Γ nm α β τ l hm)
      (λ w k. g_back_sl_shr w.𝓛 (EnvOf w.𝓛 tys bs) R Γ nm α β τ l hm (a w) e e') c
