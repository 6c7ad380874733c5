-- A refusal by the image's number, or by the call's: each leaves what is lent, and nothing that is done has a refusal's number.
use mathlib.Core.Bool.{true, not, ◌&&◌}
use mathlib.Core.List.{List, []}
use mathlib.Core.Path.{◌≡◌, refl, sym, ap, subst, ◌∙◌}
use Prim.Native.Nat.{ℕ}
use lib.Dec.{eqb, leb}
use lib.IntN.{pos}
use lib.ListN.{length}
use Rattle.dispatch.proofs.Unchanged.{refused_promise}
use Rattle.dispatch.specs.Kinds.{refused, Kind, Reading, Clearing, Other, state_kind}
use Rattle.dispatch.specs.Lent.{Lent, start}
use Rattle.dispatch.specs.Step.{step, state_step}
use Rattle.dispatch.specs.declared.Call.{Call}
use Rattle.dispatch.specs.declared.Call.TheVariants as call
use Rattle.dispatch.specs.declared.StateCall.{StateCall}
use Rattle.copies.specs.PanDocs.{oam_bytes}
use Rattle.image.specs.Layout.{bit, image_len}
use Rattle.image.specs.Load.{Stored, sound, all_fields_in, values_of, storable, state_of, load_call}
use Rattle.image.specs.Load.{Loaded}
use Rattle.mbc.specs.Mbc as mbc
use Rattle.mbc.specs.declared.cartridge.Cartridge.{Cartridge}
use Rattle.mbc.specs.declared.mbc.Mapper.{Mapper}
use Rattle.mbc.specs.Answers.{ReadByte}
use Rattle.memory.specs.Start.{zeroed}
use Rattle.memory.specs.World.{world, Fixed, fixed}
use Rattle.memory.specs.declared.Memory.{Memory}
use Rattle.rules.proofs.Tests.{by_cond, cond_both, untrue}
use Rattle.numbers.specs.Numbers.{done}
use Rattle.savelog.specs.Convert.{Conversion, room, undamaged, below, conversion}
use Rattle.savelog.specs.Log.{end_of, log_limit, records, records_by, all_sound, lengths_fit, use_in_range, Outcome, recovery}
use Rattle.savelog.specs.declared.Form.{Form}
use Rattle.entry.specs.Entries.{Held, kept, changes, on_state, entry}
use Rattle.entry.specs.Entry.{
  Changed,
  encoded,
  state_entry,
  Given,
  ask_entry,
  used_entry,
  read_entry,
  Left,
  left,
  encoded_in,
  world_entry,
  Fresh,
  fresh_entry,
  mapper_read_entry,
  Mapped,
  encoded_mapper,
  mapper_write_entry,
}
use Rattle.entry.specs.Host.{Shown, numbers_entry, set_entry, colors_len, colors_entry, oam_entry, overflow_entry, block_limit, block_entry, use_entry}
use Rattle.entry.specs.Refused.{RefusedEntry}
use Rattle.entry.specs.declared.HostNumber.{HostNumber}

-- what a refusal leaves, of each form

abbrev Nought : Given → Type 0
Nought o = refused o.number ≡ true → o.value ≡ 0

abbrev Same : List ℕ → Changed → Type 0
Same i o = refused o.number ≡ true → o.image ≡ i

abbrev Filled : List ℕ → Stored → Type 0
Filled l o = refused o.number ≡ true → o.bytes ≡ l

abbrev Kept : Held → Left → Type 0
Kept h o = refused o.number ≡ true → (o.value ≡ 0) × (kept o ≡ h)

-- The calls of the bus

module _ (i : List ℕ) (c : StateCall) where
  state_same : Same i (state_entry i c)
  unfolding state_entry encoded
  state_same =
      by_cond (Same i) (eqb (load_call i).number done) _ _
      (λ t. by_cond (Same i) (refused (state_step (load_call i).state c).number) _ _ (λ t e. refl) (λ f e. untrue (sym f ∙ e))) (λ f e. refl)

  ask_nought : Nought (ask_entry i c)
  unfolding ask_entry step
  ask_nought =
      by_cond Nought (eqb (load_call i).number done) _ _
      (λ t e. (refused_promise (fixed [] []) (world (load_call i).state [] [] [] []) (call.State c) e).1) (λ f e. refl)

read_nought : (x : Fixed) (i v w s : List ℕ) (c : Call) → Nought (read_entry x i v w s c)
unfolding read_entry
read_nought x i v w s c =
    by_cond Nought (eqb (load_call i).number done) _ _ (λ t e. (refused_promise x (world (load_call i).state v w s []) c e).1) (λ f e. refl)

world_kept : (x : Fixed) (h : Held) (c : Call) → Kept h (world_entry x h.image h.vram h.wram h.save h.log c)
unfolding world_entry encoded_in
world_kept x h c =
    by_cond (Kept h) (eqb (load_call h.image).number done) _ _
    (λ t. by_cond (Kept h) (refused (step x (world (load_call h.image).state h.vram h.wram h.save h.log) c).number) _ _
    (λ t e. (refl, refl)) (λ f e. untrue (sym f ∙ e))) (λ f e. (refl, refl))

changed_kept : (h : Held) (o : Changed) → Same h.image o → Kept h (changes h o)
changed_kept h o s e = (refl, ap (λ (i : List ℕ). kept (left 0 0 i h.vram h.wram h.save h.log)) (s e))

state_kept : (k : Kind) (h : Held) (c : StateCall) → Kept h (on_state k h c)
state_kept Reading h c e = (ask_nought h.image c e, refl)
state_kept Clearing h c e = changed_kept h (state_entry h.image c) (state_same h.image c) e
state_kept Other h c e = changed_kept h (state_entry h.image c) (state_same h.image c) e

entry_kept : (x : Fixed) (h : Held) (c : Call) → Kept h (entry x h c)
unfolding entry
entry_kept x h (call.ReadByte i) e = (read_nought x _ _ _ _ (call.ReadByte i) e, refl)
entry_kept x h (call.ReadWord i) e = (read_nought x _ _ _ _ (call.ReadWord i) e, refl)
entry_kept x h (call.ReadCgbLcdRam i bank) e = (read_nought (fixed [] []) _ _ _ _ (call.ReadCgbLcdRam i bank) e, refl)
entry_kept x h (call.WriteByte i v) e = world_kept x h (call.WriteByte i v) e
entry_kept x h (call.WriteWord i v) e = world_kept x h (call.WriteWord i v) e
entry_kept x h (call.DoDmaTransfer page) e = world_kept x h (call.DoDmaTransfer page) e
entry_kept x h call.DoHdma e = world_kept x h call.DoHdma e
entry_kept x h (call.State c) e = state_kept (state_kind c) h c e

-- A fresh bus, and a mapper's own calls

abbrev Unbegun : List ℕ → Lent → Fresh → Type 0
Unbegun i l o = refused o.number ≡ true → (o.image ≡ i) × (o.vram ≡ l.vram) × (o.wram ≡ l.wram)

fresh_same : (i : List ℕ) (l : Lent) → Unbegun i l (fresh_entry i l.vram l.wram (start l))
unfolding fresh_entry
fresh_same i l =
    cond_both (Unbegun i l) (eqb (length i) image_len)
    (cond_both (Unbegun i l) (eqb (start l).number done) (λ e. untrue e) (λ e. (refl, refl, refl)))
    (λ e. (refl, refl, refl))

abbrev Unread : ReadByte → Type 0
Unread o = refused o.number ≡ true → o.value ≡ 0

module _ (c : Cartridge) (m : Mapper) (rom save : List ℕ) (k : ℕ) where
  unread : Unread (mbc.read_byte c m rom save k)
  unfolding mbc.read_byte
  unread =
      cond_both Unread (not (mbc.in_range c m)) (λ e. refl)
      (cond_both Unread (not (mbc.lengths c m (length rom) (length save))) (λ e. refl)
      (cond_both Unread (not (mbc.mapped k)) (λ e. refl) (λ e. untrue e)))

mapper_nought : (i rom save : List ℕ) (k : ℕ) → Nought (mapper_read_entry i rom save k)
unfolding mapper_read_entry
mapper_nought i rom save k =
    cond_both Nought (eqb (load_call i).number done)
    (unread (load_call i).state.core.cartridge (load_call i).state.core.mapper rom save k) (λ e. refl)

abbrev Unmapped : List ℕ → Mapped → Type 0
Unmapped i o = refused o.number ≡ true → (o.value ≡ 0) × (o.image ≡ i)

mapper_same : (i : List ℕ) (k v : ℕ) → Unmapped i (mapper_write_entry i k v)
unfolding mapper_write_entry encoded_mapper
mapper_same i k v =
    cond_both (Unmapped i) (eqb (load_call i).number done)
    (cond_both (Unmapped i) (eqb (mbc.write_byte (load_call i).state.core.cartridge (load_call i).state.core.mapper k v).number done)
    (λ e. untrue e) (λ e. (refl, refl)))
    (λ e. (refl, refl))

-- What a host asks and sets beside

colors_filled : (i l : List ℕ) → Filled l (colors_entry i l)
unfolding colors_entry
colors_filled i l =
    cond_both (Filled l) (eqb (load_call i).number done) (cond_both (Filled l) (eqb (length l) colors_len) (λ e. untrue e) (λ e. refl)) (λ e. refl)

oam_filled : (i l : List ℕ) → Filled l (oam_entry i l)
unfolding oam_entry
oam_filled i l =
    cond_both (Filled l) (eqb (load_call i).number done) (cond_both (Filled l) (eqb (length l) oam_bytes) (λ e. untrue e) (λ e. refl)) (λ e. refl)

block_filled : (x : Fixed) (i v w s l : List ℕ) (k : ℕ) → Filled l (block_entry x i v w s l k)
unfolding block_entry
block_filled x i v w s l k =
    cond_both (Filled l) (eqb (read_entry x i v w s (call.ReadByte k)).number done)
    (cond_both (Filled l) (leb (length l) block_limit) (λ e. untrue e) (λ e. refl)) (λ e. refl)

set_same : (i : List ℕ) (n : HostNumber) → Same i (set_entry i n)
unfolding set_entry
set_same i n = state_same i _

use_same : (i : List ℕ) (u : ℕ) → Same i (use_entry i u)
unfolding use_entry
use_same i u =
    cond_both (Same i) (eqb (load_call i).number done) (cond_both (Same i) (use_in_range u log_limit) (λ e. untrue e) (λ e. refl)) (λ e. refl)

cycles_nought : (i : List ℕ) → Nought (overflow_entry i)
unfolding overflow_entry
cycles_nought i = cond_both Nought (eqb (load_call i).number done) (λ e. untrue e) (λ e. refl)

-- a refused image gives the all-zero state

abbrev Unloaded : Loaded → Type 0
Unloaded d = refused d.number ≡ true → d.state ≡ zeroed

load_zeroed : (i : List ℕ) → Unloaded (load_call i)
unfolding load_call
load_zeroed i =
    cond_both Unloaded (eqb (length i) image_len)
    (cond_both Unloaded (sound (all_fields_in (values_of i)) && storable (state_of i)) (λ e. untrue e) (λ e. refl)) (λ e. refl)

used_nought : (i : List ℕ) → Nought (used_entry i)
unfolding zeroed
used_nought i e = ap (λ (m : Memory). m.core.used) (load_zeroed i e)

abbrev Unshown : Shown → Type 0
Unshown o =
    refused o.number ≡ true
    → (o.disabled ≡ 0) × (o.line ≡ 0) × (o.signal ≡ 0) × (o.mode ≡ 0)
    × (o.delay ≡ pos 0) × (o.counter ≡ pos 0) × (o.aux ≡ pos 0) × (o.window ≡ pos 0)

numbers_nought : (i : List ℕ) → Unshown (numbers_entry i)
unfolding zeroed
numbers_nought i e =
    let z = load_zeroed i e in (
      ap (λ (m : Memory). bit m.core.lcd.disabled) z,
      ap (λ (m : Memory). m.core.lcd.line) z,
      ap (λ (m : Memory). m.core.lcd.signal) z,
      ap (λ (m : Memory). m.core.lcd.mode) z,
      ap (λ (m : Memory). m.core.lcd.delay) z,
      ap (λ (m : Memory). m.core.lcd.counter) z,
      ap (λ (m : Memory). m.core.lcd.aux) z,
      ap (λ (m : Memory). m.core.lcd.window) z,
    )

-- No image

abbrev Unrecovered : List ℕ → Outcome → Type 0
Unrecovered s o = refused o.number ≡ true → o.save ≡ s

recovery_same : (s l : List ℕ) → Unrecovered s (recovery s l)
unfolding recovery
recovery_same s l =
    cond_both (Unrecovered s) (lengths_fit (length s) (length l))
    (cond_both (Unrecovered s) (all_sound (length s) (records l)) (λ e. untrue e) (λ e. refl)) (λ e. refl)

abbrev Unconverted : List ℕ → Conversion → Type 0
Unconverted l o = refused o.number ≡ true → (o.len ≡ 0) × (o.target ≡ l)

conversion_same : (f g : Form) (s l : List ℕ) → Unconverted l (conversion f g s l)
unfolding conversion
conversion_same f g s l =
    cond_both (Unconverted l) (room f g (length s) (length l))
    (cond_both (Unconverted l) (undamaged (records_by f s))
    (cond_both (Unconverted l) (below (end_of g) (records_by f s)) (λ e. untrue e) (λ e. (refl, refl))) (λ e. (refl, refl)))
    (λ e. (refl, refl))

-- The same of any result that meets the contract, as that is what the entry gives

pub refused_entry : RefusedEntry
refused_entry =
    record {
      enters = λ x h c n v a e. subst (Kept h) (sym e) (entry_kept x h c);
      changes = λ i c n a e. subst (Same i) (sym e) (state_same i c);
      asks = λ i c n v e. subst Nought (sym e) (ask_nought i c);
      reads = λ x i v w s c n k e. subst Nought (sym e) (read_nought x i v w s c);
      reads_vram = λ i v index bank n k e. subst Nought (sym e) (read_nought (fixed [] []) i v [] [] (call.ReadCgbLcdRam index bank));
      begins = λ i l n a v w e. subst (Unbegun i l) (sym e) (fresh_same i l);
      mapper_reads = λ i rom save index n v e. subst Nought (sym e) (mapper_nought i rom save index);
      mapper_writes = λ i index byte n v a e. subst (Unmapped i) (sym e) (mapper_same i index byte);
      fills_colors = λ i out n a e. subst (Filled out) (sym e) (colors_filled i out);
      fills_oam = λ i out n a e. subst (Filled out) (sym e) (oam_filled i out);
      fills_block = λ x i v w s out index n a e. subst (Filled out) (sym e) (block_filled x i v w s out index);
      shows = λ i n d l s m y c a w e. subst Unshown (sym e) (numbers_nought i);
      sets = λ i k n a e. subst (Same i) (sym e) (set_same i k);
      gives_use = λ i n v e. subst Nought (sym e) (used_nought i);
      sets_use = λ i used n a e. subst (Same i) (sym e) (use_same i used);
      gives_cycles = λ i n v e. subst Nought (sym e) (cycles_nought i);
      recovers = λ save log n a e. subst (Unrecovered save) (sym e) (recovery_same save log);
      converts = λ from to source target n v a e. subst (Unconverted target) (sym e) (conversion_same from to source target);
    }
