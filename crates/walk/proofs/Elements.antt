-- Elements of a slice, at a type T that is Copy and stands in a local whole. Assumes nothing.
--     takes, looks     an element is copied out of a `&mut [T]` or a `&[T]`
--     puts             an element of a `&mut [T]` is written
--     copies           such a value goes from local to local
use mathlib.Core.Path.{◌≡◌, refl}
use mathlib.Core.List.{List, [], ◌∷◌}
use Prim.Native.Nat.{ℕ}
use mir.Syntax.{Ty, ty_ptr, deref, assign, place, rv_opd, copy}
use prog.Wp.{spot_of}
use denote.Ref.{Bor, MutBor}
use borrow.Table.Copies.{halved}
use borrow.Table.Own.{Told-none}
use borrow.Table.Row.{Rho, Cx, Life, IsTok, get_life, get_row, s_ptr}
use borrow.Table.Rows.{sc_here, whole, sslice}
use borrow.Table.Reads.{As}
use borrow.Table.Typed.{Mo, ent₁, ent₂, tab₂}
use borrow.Rule.Local.{AfterLend}
use borrow.Rule.LocalCopy.{Φval_copy, t_val_copy}
use borrow.Rule.DerefMove.{Learns-nothing}
use borrow.Rule.Yields.{Yields}
use borrow.Rule.Slice.Shared.{by_size}
use borrow.Rule.Slice.Mut.{mslice}
use borrow.Rule.Slice.Move.{AfterSl, AfterShs, Φshs_copy_out, t_shs_copy_out, Φsl_copy_out, Φsl_set_from, t_sl_copy_out, t_sl_set_from}
use borrow.Fn.Frame.{EnvOf}
use Rattle.walk.proofs.Walk.{Model, Room, Line, Elem, ty, makes}

module _ {tys : List Ty} {bs : List ℕ} {Kn : Model → Type 1} where
  module _ (T : Elem) where
    -- the local at ns holds a `&mut [T]` at the slot α, and the one at nq a pointer to its element `idx`
    module _ {Γ : Cx} (ns nq ny α : ℕ) (τ : Ty) (l : Life) (idx : Mo Γ → ℕ) (hs : (ent₁ Γ ns nq).1.Mod → MutBor (List T.R.Denot))
        (hq : (ent₂ Γ ns nq).1.Mod → ℕ × ℕ)
        (is-list : (w : Model) → As w.𝓛 (ent₁ Γ ns nq).1 (mslice T.R τ α) hs)
        (is-ptr : (w : Model) → As w.𝓛 (ent₂ Γ ns nq).1 (sc_here s_ptr) hq)
        (life : get_life α Γ.slots ≡ l) (tok : IsTok l)
        (spot-q : (w : Model) → (spot_of w.𝓤 w.𝓛.H (EnvOf w.𝓛 tys bs) (ent₂ Γ ns nq).0).0 ≡ ty_ptr)
        (spot-y : (w : Model) → (spot_of w.𝓤 w.𝓛.H (EnvOf w.𝓛 tys bs) (get_row ny (tab₂ Γ ns nq)).0).0 ≡ (ty T)) where
      -- `d = list[i]`
      abbrev pub takes : Room (get_row ny (tab₂ Γ ns nq)).1 (ty T) → Line tys bs Kn Γ
          (assign (place (get_row ny (tab₂ Γ ns nq)).0 []) (rv_opd (copy (place (ent₂ Γ ns nq).0 (deref (ty T) ∷ [])))))
          (AfterSl T.R Γ ns nq ny α τ l (whole T.R))
      takes room = record {
        φ = Φsl_copy_out T.R Γ ns nq ny α τ l (whole T.R) (by_size T.size) idx (λ x. x) T.dv (λ x. Unit {0}) hs hq;
        ok = λ w k. t_sl_copy_out w.𝓛 (EnvOf w.𝓛 tys bs) T.R w.𝓣 T.one
            (T.cp.copy w.𝓛) (λ (ρ : Rho). Unit {0}) Γ ns nq ny α τ l (ty T) (ty T) (whole T.R)
            (by_size T.size) idx (λ x. x) T.dv (λ x. Unit {0}) hs hq T.places refl refl (Told-none w.𝓛 Γ.slots)
            (Learns-nothing w.𝓛 T.R)
            (is-list w) (is-ptr w) (room w) (makes T w) life tok (spot-q w) (spot-y w);
      }

      -- `list[i] = y`
      abbrev pub puts : (hy : (get_row ny (tab₂ Γ ns nq)).1.Mod → T.R.Denot) (ky : (get_row ny (tab₂ Γ ns nq)).1.Mod → T.R.Denot) →
          ((w : Model) → Yields w.𝓛 (λ (ρ : Rho). Unit {0}) (ty T) (get_row ny (tab₂ Γ ns nq)).1 (whole T.R) T.R hy ky)
          → Line tys bs Kn Γ (assign (place (ent₂ Γ ns nq).0 (deref (ty T) ∷ [])) (rv_opd (copy (place (get_row ny (tab₂ Γ ns nq)).0 []))))
          (AfterSl T.R Γ ns nq ny α τ l (whole T.R))
      puts hy ky yl = record {
        φ = Φsl_set_from T.R Γ ns nq ny α τ l (whole T.R) (by_size T.size) idx hs hq hy ky;
        ok = λ w k. t_sl_set_from w.𝓛 (EnvOf w.𝓛 tys bs) T.R w.𝓣 T.one (λ (ρ : Rho). Unit {0}) Γ
            ns nq ny α τ l (ty T) (ty T) (whole T.R) (by_size T.size) idx hs hq hy ky T.places refl refl
            (Told-none w.𝓛 Γ.slots) (is-list w) (is-ptr w) (yl w) life tok (spot-q w) (spot-y w);
      }

    -- the same at a `&[T]`: `d = list[i]`
    abbrev pub looks : {Γ : Cx} (ns nq ny α : ℕ) (τ : Ty) (l : Life) (idx : Mo Γ → ℕ)
        (hs : (ent₁ Γ ns nq).1.Mod → Bor (List T.R.Denot)) (hq : (ent₂ Γ ns nq).1.Mod → ℕ × ℕ)
        → ((w : Model) → As w.𝓛 (ent₁ Γ ns nq).1 (sslice T.R τ α) hs) →
        ((w : Model) → As w.𝓛 (ent₂ Γ ns nq).1 (sc_here s_ptr) hq) → get_life α Γ.slots ≡ l → IsTok l
        → ((w : Model) → (spot_of w.𝓤 w.𝓛.H (EnvOf w.𝓛 tys bs) (ent₂ Γ ns nq).0).0 ≡ ty_ptr) →
        ((w : Model) → (spot_of w.𝓤 w.𝓛.H (EnvOf w.𝓛 tys bs) (get_row ny (tab₂ Γ ns nq)).0).0 ≡ ty T)
        → Room (get_row ny (tab₂ Γ ns nq)).1 (ty T) → Line tys bs Kn Γ (assign (place (get_row ny (tab₂ Γ ns nq)).0 [])
        (rv_opd (copy (place (ent₂ Γ ns nq).0 (deref (ty T) ∷ []))))) (AfterShs T.R Γ ns nq ny α τ l (whole T.R))
    looks {Γ} ns nq ny α τ l idx hs hq is-list is-ptr life tok spot-q spot-y room = record {
      φ = Φshs_copy_out T.R Γ ns nq ny α τ l (whole T.R) (by_size T.size) idx (λ x. x) T.dv (λ x. Unit {0}) hs hq;
      ok = λ w k. t_shs_copy_out w.𝓛 (EnvOf w.𝓛 tys bs) T.R w.𝓣 T.laws T.one
          (T.cp.copy w.𝓛) (halved w.𝓛 T.cp) (λ (ρ : Rho). Unit {0}) Γ ns nq ny α τ l
          (ty T) (ty T) (whole T.R) (by_size T.size) idx (λ x. x) T.dv (λ x. Unit {0}) hs hq T.places refl refl
          (Told-none w.𝓛 Γ.slots) (Learns-nothing w.𝓛 T.R)
          (is-list w) (is-ptr w) (room w) (makes T w) life tok (spot-q w) (spot-y w);
    }

    -- `d = y`
    abbrev pub copies : {Γ : Cx} (ny nd : ℕ) (h k : (ent₁ Γ ny nd).1.Mod → T.R.Denot) →
        ((w : Model) → Yields w.𝓛 (λ (ρ : Rho). Unit {0}) (ty T) (ent₁ Γ ny nd).1 (whole T.R) T.R h k) → Room
        (ent₂ Γ ny nd).1 (ty T)
        → ((w : Model) → (spot_of w.𝓤 w.𝓛.H (EnvOf w.𝓛 tys bs) (ent₁ Γ ny nd).0).0 ≡ (ty T)) →
        ((w : Model) → (spot_of w.𝓤 w.𝓛.H (EnvOf w.𝓛 tys bs) (ent₂ Γ ny nd).0).0 ≡ (ty T))
        → Line tys bs Kn Γ (assign (place (ent₂ Γ ny nd).0 []) (rv_opd (copy (place (ent₁ Γ ny nd).0 []))))
        (AfterLend Γ ny nd (whole T.R) (whole T.R))
    copies {Γ} ny nd h k yl room sy sd = record {
      φ = Φval_copy Γ ny nd T.R (whole T.R) (whole T.R) h k (λ x. x);
      ok = λ w kn. t_val_copy w.𝓛 (EnvOf w.𝓛 tys bs) w.𝓣 (λ (ρ : Rho). Unit {0}) Γ ny nd T.R (ty T)
          (ty T) (whole T.R) (whole T.R) h k (λ x. x) refl (Told-none w.𝓛 Γ.slots) (yl w) (room w) (makes T w)
          (sy w) (sd w);
    }
