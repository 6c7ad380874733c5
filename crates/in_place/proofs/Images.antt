-- An image with the state that it is of, and what a byte of the page or a group of fields put in it makes of both. An image that is taken is such a pair
-- (`held`); each law leaves one, so that they follow one another as the code does.
use mathlib.Core.Bool.{Bool, true, false, cond}
use mathlib.Core.List.{List}
use mathlib.Core.Path.{◌≡◌, refl, sym, ap, ◌∙◌}
use Prim.Native.Nat.{ℕ, ◌+◌, ◌<◌, ◌≤◌}
use native.Mathlib.Omega.{arith}
use lib.ListN.{length, get_or, set}
use Rattle.image.proofs.GroupPatches.{LcdTyped, hdma_typed, joypad_typed, joypad_storable, joypad_image, lcd_typed, lcd_storable, lcd_image, loaded_core}
use Rattle.image.proofs.LoadedPatches.{loaded_typed, loaded_storable}
use Rattle.image.proofs.OpenLaws.{load_length, load_image, load_page}
use Rattle.image.proofs.PatchLaws.{joypad_bytes, page_image, clock_image, typed_with, typed_bytes, storable_bytes, bytes_set, image_put}
use Rattle.image.specs.Laws.{Typed}
use Rattle.image.specs.Layout.{image_len, image_of, field_values}
use Rattle.image.specs.Load.{storable, core_from, load_call}
use Rattle.image.specs.Patches.{fields, put, lcd_fields, joypad_fields, clock_put, Fits, banks_fields, hdma_fields}
use Rattle.joypad.specs.Joypad.{Bytes}
use Rattle.hdma.specs.Hdma.{starts}
use Rattle.hdma.specs.declared.Hdma.{Hdma}
use Rattle.hdma.specs.declared.Start.{Start}
use Rattle.hdma.specs.declared.Start.TheVariants as start
use mathlib.Core.Logic.{◌⊎◌, inl, inr}
use Rattle.hdma.specs.declared.Written.{Written}
use Rattle.image.proofs.StateLaws.{storable_state, fields_fit, banks_fit}
use Rattle.memory.proofs.Laws.{clock_range}
use Rattle.memory.specs.Ranges.{state_in_range, in_range}
use Rattle.memory.specs.World.{with_clock, with_banks, with_core, with_hdma}
use Rattle.memory.specs.declared.Clock.{Clock}
use Rattle.memory.specs.declared.Memory.{Memory}
use Rattle.registers.specs.State.{loaded, stored, hosted, with_controller}
use Rattle.rules.proofs.Tests.{both_true, cond_true, cond_false}
use Rattle.memory.specs.declared.Banks.{Banks}
use Rattle.memory.specs.declared.Core.{Core}
use Rattle.places.specs.Places.{set_all}
use Rattle.registers.proofs.Kept.{Kept, in_kept}
use Rattle.registers.specs.Colour.{in_colour}
use Rattle.registers.specs.PanDocs.{speed_of}
use Rattle.registers.specs.Page.{write_in, write_register}
use Rattle.registers.specs.Register.{register_of, byte_as}
use Rattle.registers.specs.Transfers.{transfer_put, started_by, started, start_put}
use Rattle.registers.specs.declared.register.Register.{Register}
use Rattle.registers.specs.declared.register.Register.TheVariants as is
use Rattle.registers.specs.declared.transfers.Started.{Started}
use Rattle.joypad.specs.declared.Controller.{Controller}
use Rattle.lcd.specs.declared.Lcd.{Lcd}
use Rattle.savelog.specs.Log.{log_limit, use_in_range}
use Rattle.in_place.specs.Held.{Held}
use Rattle.in_place.proofs.Fine.{typed_fine, fine_typed, banks_fine}

pub record ImageOf (i : List ℕ) (m : Memory) : Type 0 where
  pub same : i ≡ image_of m
  pub typed : Typed m
  pub storable : storable m ≡ true

-- what a write that keeps the ranges leaves is in range
pub kept_storable : {m n : Memory} → Kept m n → storable m ≡ true → storable n ≡ true
unfolding storable in_range
kept_storable {m} {n} k h =
    let r = storable_state m h in
    rw (k.range r, k.used) (both_true (state_in_range m) (use_in_range m.core.used log_limit) h).1

module _ (i : List ℕ) (h : Held i) where
  abbrev pub state : Memory
  state = (load_call i).state

  pub size : length i ≡ image_len
  size = load_length i h.1

  pub held : ImageOf i state
  held = record { same = sym (load_image i h.1 h.0); typed = loaded_typed i h.0 h.1; storable = loaded_storable i h.0 h.1 }

  -- what is read
  pub byte : (k : ℕ) → k < 256 → get_or i (256 + k) 0 ≡ loaded state k
  byte k b = sym (load_page i h.1 h.0 k b)

  pub core : core_from (fields i) ≡ state.core
  core = sym (loaded_core i h.0 h.1)

clock_storable : (m : Memory) → storable m ≡ true → (c : Clock) → c.tima ≤ 1023 → storable (with_clock m c m.page) ≡ true
unfolding storable in_range
clock_storable m h c k =
    let b = both_true (state_in_range m) (use_in_range m.core.used log_limit) h in
    rw (clock_range m b.0 c m.page k, b.1)

-- what is put
module _ {i : List ℕ} {m : Memory} (e : ImageOf i m) where
  pub put_byte : (k v : ℕ) → k < 256 → v < 256 → ImageOf (set i (256 + k) v) (stored m k v)
  put_byte k v hk hv =
      record {
        same = ap (λ (l : List ℕ). set l (256 + k) v) e.same ∙ sym (page_image m e.typed e.storable k v hk hv);
        typed = typed_bytes m e.typed m.oam (set m.page k v) e.typed.oam (bytes_set m.page k v e.typed.page hv);
        storable = storable_bytes m m.oam (set m.page k v) ∙ e.storable;
      }

  pub put_clock : (c : Clock) → c.div < 256 → c.tima < 1024 → ImageOf (clock_put i c) (with_clock m c m.page)
  put_clock c hd ht =
      let k = clock_storable m e.storable c (omega arith) in
      record {
        same = ap (λ (l : List ℕ). clock_put l c) e.same ∙ clock_image m e.typed e.storable c hd k;
        typed =
            typed_with m e.typed m.oam m.page m.core.joypad c m.core.mapper m.core.used e.typed.oam e.typed.page
            (joypad_bytes e.typed).0 (joypad_bytes e.typed).1 hd;
        storable = k;
      }

  pub put_joypad : (j : Controller) → Bytes j → ImageOf (put (joypad_fields j) i) (with_controller m j)
  put_joypad j b =
      record {
        same = ap (put (joypad_fields j)) e.same ∙ joypad_image m e.typed e.storable j b.0 b.1;
        typed = joypad_typed m e.typed j b.0 b.1;
        storable = joypad_storable m e.typed e.storable j;
      }

  pub put_lcd : (l : Lcd) → LcdTyped l → ImageOf (put (lcd_fields l) i) (hosted m l)
  put_lcd l k =
      record {
        same = ap (put (lcd_fields l)) e.same ∙ lcd_image m e.typed e.storable l k;
        typed = lcd_typed m e.typed l k;
        storable = lcd_storable m e.typed e.storable l;
      }

  -- fields that the ranges read: what is left is asked to be in range
  put_core : (ps : List (ℕ × ℕ)) → Fits ps → (c : Core) → set_all ps (field_values m.core) ≡ field_values c → Typed (with_core m c)
      → storable (with_core m c) ≡ true → ImageOf (put ps i) (with_core m c)
  put_core ps f c k t h =
      record { same = ap (put ps) e.same ∙ image_put m e.typed e.storable ps f c k; typed = t; storable = h }

  pub put_banks : (b : Banks) → storable (with_banks m b m.page) ≡ true → ImageOf (put (banks_fields b) i) (with_banks m b m.page)
  put_banks b h =
      let n = with_banks m b m.page in
      let t = fine_typed n (banks_fine (typed_fine m e.typed (storable_state m e.storable)) b (record { size = e.typed.page.0; bytes = e.typed.page.1 })) in
      put_core (banks_fields b) (banks_fit n.core (fields_fit n t h)) n.core refl t h

  pub put_hdma : (x : Hdma) → (x.source < 65536) × (x.destination < 65536) → storable (with_hdma m x m.page) ≡ true
      → ImageOf (put (hdma_fields x) i) (with_hdma m x m.page)
  put_hdma x b h =
      let n = with_hdma m x m.page in
      let t = hdma_typed m e.typed x m.page b.0 b.1 e.typed.page in
      put_core (hdma_fields x) (omega (arith, fields_fit n t h)) n.core refl t h

-- A register of a colour machine alone, by what the test found

module _ (m : Memory) (at v : ℕ) (n : Memory) {t : Bool} (a : t ≡ m.core.banks.colour) where
  pub in_colour_law : t ≡ true → {j : List ℕ} → j ≡ image_of n → j ≡ image_of (in_colour m at v n)
  in_colour_law b c = c ∙ ap image_of (sym (cond_true _ n (stored m at v) (sym a ∙ b)))

  pub in_monochrome : t ≡ false → {j : List ℕ} → j ≡ image_of (stored m at v) → j ≡ image_of (in_colour m at v n)
  in_monochrome b c = c ∙ ap image_of (sym (cond_false _ n (stored m at v) (sym a ∙ b)))

  -- what the write leaves is in range
  pub colour_storable : t ≡ true → storable m ≡ true → Kept m (in_colour m at v n) → storable n ≡ true
  colour_storable b s k = sym (ap storable (cond_true _ n (stored m at v) (sym a ∙ b))) ∙ kept_storable k s

module _ (i : List ℕ) (h : Held i) (at : ℕ) (ha : at < 256) where
  page_put : (v : ℕ) → v < 256 → {j : List ℕ} → j ≡ image_of (stored (state i h) at v) → ImageOf j (stored (state i h) at v)
  page_put v b e =
      let p = put_byte (held i h) at v ha b in
      record { same = e; typed = p.typed; storable = p.storable }

  -- the banks, and a byte of the page
  module _ (v : ℕ) (hv : v < 256) (b : Banks) (s : storable (with_banks (state i h) b (set (state i h).page at v)) ≡ true) where
    pub banks_fits : Fits (banks_fields b)
    banks_fits =
        let n = with_banks (state i h) b (set (state i h).page at v) in
        banks_fit n.core (fields_fit n (put_banks (page_put v hv refl) b s).typed s)

    pub banks_image : {j k : List ℕ} → j ≡ image_of (stored (state i h) at v) → k ≡ put (banks_fields b) j
        → k ≡ image_of (with_banks (state i h) b (set (state i h).page at v))
    banks_image e f = f ∙ (put_banks (page_put v hv e) b s).same

  -- the hidden addresses, and a byte of the page
  pub transfer_image : (w : Written) → w.byte < 256 → (w.hdma.source < 65536) × (w.hdma.destination < 65536)
      → storable (transfer_put (state i h) at w) ≡ true → {j k : List ℕ} → j ≡ image_of (stored (state i h) at w.byte) → k ≡ put (hdma_fields w.hdma) j
      → k ≡ image_of (transfer_put (state i h) at w)
  transfer_image w b r s e f = f ∙ (put_hdma (page_put w.byte b e) w.hdma r s).same

  -- a bank selected in colour, else the byte is stored
  module _ (v u : ℕ) (g : Banks → Banks) {b n : Banks} (p : b ≡ (state i h).core.banks) (e : n ≡ g b) where
    abbrev selected : Memory
    selected = with_banks (state i h) (g (state i h).core.banks) (set (state i h).page at u)

    same_banks : n ≡ g (state i h).core.banks
    same_banks = e ∙ ap g p

    pub bank_storable : Kept (state i h) (in_colour (state i h) at v selected) → b.colour ≡ true
        → storable (with_banks (state i h) n (set (state i h).page at u)) ≡ true
    bank_storable k q =
        ap (λ (x : Banks). storable (with_banks (state i h) x (set (state i h).page at u))) same_banks
        ∙ colour_storable (state i h) at v selected (ap (λ (x : Banks). x.colour) p) q (held i h).storable k

    pub bank_put : {j : List ℕ} → j ≡ image_of (in_colour (state i h) at v (with_banks (state i h) n (set (state i h).page at u)))
        → j ≡ image_of (in_colour (state i h) at v selected)
    bank_put d = d ∙ ap (λ (x : Banks). image_of (in_colour (state i h) at v (with_banks (state i h) x (set (state i h).page at u)))) same_banks

  -- an address's byte, by what crate hdma gives of it
  module _ (v : ℕ) (g : Hdma → ℕ → Written) where
    abbrev addressed : Memory
    addressed = transfer_put (state i h) at (g (state i h).core.hdma v)

    pub address_storable : {w : Written} → w ≡ g (state i h).core.hdma v → Kept (state i h) (in_colour (state i h) at v addressed)
        → (state i h).core.banks.colour ≡ true → storable (transfer_put (state i h) at w) ≡ true
    address_storable e k b =
        ap (λ (x : Written). storable (transfer_put (state i h) at x)) e
        ∙ colour_storable (state i h) at v addressed refl b (held i h).storable k

    abbrev Addressed : List ℕ → Type 0
    Addressed j = (w : Written) × (w ≡ g (state i h).core.hdma v) × (j ≡ image_of (transfer_put (state i h) at w))

    pub address_written : {j : List ℕ} → ((state i h).core.banks.colour ≡ true → Addressed j)
        → ((state i h).core.banks.colour ≡ false → j ≡ image_of (stored (state i h) at v)) → j ≡ image_of (in_colour (state i h) at v addressed)
    address_written {j} = by_colour (state i h).core.banks.colour
      where
        by_colour : (t : Bool) → (t ≡ true → Addressed j) → (t ≡ false → j ≡ image_of (stored (state i h) at v))
            → j ≡ image_of (cond t addressed (stored (state i h) at v))
        by_colour true e f = let r = e refl in r.2 ∙ ap (λ (w : Written). image_of (transfer_put (state i h) at w)) r.1
        by_colour false e f = f refl

module _ (i : List ℕ) (h : Held i) where
  -- FF4D: the speed is made of the byte that is there
  module _ (v : ℕ) {t : Bool} (a : t ≡ (state i h).core.banks.colour) where
    abbrev armed : Memory
    armed = stored (state i h) 0x4D (speed_of (loaded (state i h) 0x4D) v)

    pub speed_written : {n : ℕ} {j : List ℕ} → t ≡ true → n ≡ speed_of (get_or i 0x14D 0) v → j ≡ image_of (stored (state i h) 0x4D n)
        → j ≡ image_of (in_colour (state i h) 0x4D v armed)
    speed_written b e f =
        in_colour_law (state i h) 0x4D v armed a b
        (f ∙ ap (λ (n : ℕ). image_of (stored (state i h) 0x4D n)) (e ∙ ap (λ (x : ℕ). speed_of x v) (byte i h 0x4D (omega arith))))

    pub speed_stored : {j : List ℕ} → t ≡ false → j ≡ image_of (stored (state i h) 0x4D v) → j ≡ image_of (in_colour (state i h) 0x4D v armed)
    speed_stored b e = in_monochrome (state i h) 0x4D v armed a b e

  -- FF55, by what was decided
  module _ (v : ℕ) {t : Bool} (a : t ≡ (state i h).core.banks.colour) where
    module _ {x : Hdma} {mode : ℕ} {s : Start} (k : Start) (b : t ≡ true) (p : x ≡ (state i h).core.hdma) (q : mode ≡ (state i h).core.lcd.mode)
        (r : s ≡ starts x mode v) (g : s ≡ k) where
      decided : started_by (state i h) v k ≡ started (state i h) v
      unfolding started
      decided =
          ap (started_by (state i h) v) (sym g ∙ r ∙ ap (λ (y : Hdma). starts y mode v) p ∙ ap (λ (y : ℕ). starts (state i h).core.hdma y v) q)
          ∙ sym (cond_true _ _ _ (sym a ∙ b))

      pub start_storable : storable (started_by (state i h) v k).memory ≡ true
      start_storable =
          ap (λ (z : Started). storable z.memory) decided ∙ kept_storable (in_kept is.Start (state i h) 0x55 v) (held i h).storable

      pub start_written : {j : List ℕ} → j ≡ image_of (started_by (state i h) v k).memory → j ≡ image_of (start_put (state i h) v)
      start_written e = e ∙ ap (λ (z : Started). image_of z.memory) decided

    -- a write that sets the registers
    module _ {x : Hdma} {mode : ℕ} {s : Start} {w : Written} (b : t ≡ true) (p : x ≡ (state i h).core.hdma) (q : mode ≡ (state i h).core.lcd.mode)
        (r : s ≡ starts x mode v) where
      pub set_storable : (s ≡ start.Set w) ⊎ (s ≡ start.Block w) → storable (transfer_put (state i h) 0x55 w) ≡ true
      set_storable (inl g) = start_storable (start.Set w) b p q r g
      set_storable (inr g) = start_storable (start.Block w) b p q r g

      pub set_written : (s ≡ start.Set w) ⊎ (s ≡ start.Block w) → {j : List ℕ} → j ≡ image_of (transfer_put (state i h) 0x55 w)
          → j ≡ image_of (start_put (state i h) v)
      set_written (inl g) e = start_written (start.Set w) b p q r g e
      set_written (inr g) e = start_written (start.Block w) b p q r g e

    pub start_stored : t ≡ false → {j : List ℕ} → j ≡ image_of (stored (state i h) 0x55 v) → j ≡ image_of (start_put (state i h) v)
    unfolding started
    start_stored b e = e ∙ ap (λ (z : Started). image_of z.memory) (sym (cond_false _ _ _ (sym a ∙ b)))

  -- a register by the arm that its name takes
  pub by_arm : (at v : ℕ) {r k : Register} {j : List ℕ} → r ≡ register_of at → r ≡ k → j ≡ image_of (write_in k (state i h) at v)
      → j ≡ image_of (write_register (state i h) at v)
  by_arm at v a b e = e ∙ ap (λ (x : Register). image_of (write_in x (state i h) at v)) (sym b ∙ a)

  pub byte_stored : (at v : ℕ) {b : ℕ} {j : List ℕ} → b ≡ byte_as at v → j ≡ image_of (stored (state i h) at b)
      → j ≡ image_of (stored (state i h) at (byte_as at v))
  byte_stored at v a e = e ∙ ap (λ (b : ℕ). image_of (stored (state i h) at b)) a
