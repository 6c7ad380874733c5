-- What an entry of the C boundary does: decode the image, make the call, encode the state (document 01, "are exported to our C host on numbers and
-- byte slices": the state as an image, the memories lent, a number answered). A refusal leaves image and memories as they are and gives 0.
use Rattle.std.specs.Result.{result_unwrap_or}
use Rattle.std.specs.Prelude.{Bool, false, Option, Some, None, Result, Ok, Err, cond, List, [], ℕ, ◌%◌, eqb, length}
use Rattle.bus.specs.Calls.{Outcome}
use Rattle.bus.specs.Fresh.{Begun}
use Rattle.dispatch.specs.Kinds.{refused}
use Rattle.dispatch.specs.Step.{step, state_step, flag_number, pending_number}
use Rattle.dispatch.specs.declared.Call.{Call}
use Rattle.dispatch.specs.declared.Performed.{Performed}
use Rattle.dispatch.specs.declared.StateCall.{StateCall}
use Rattle.image.specs.Layout.{image_len, image_of}
use Rattle.image.specs.Load.{load_call}
use Rattle.interrupt.specs.declared.Interrupt.{Interrupt}
use Rattle.mbc.specs.Mbc.{read_byte, write_byte}
use Rattle.mbc.specs.declared.mbc.Stored.{Stored}
use Rattle.mbc.specs.Answers.{WriteByte}
use Rattle.memory.specs.World.{World, world, Fixed, with_mapper}
use Rattle.memory.specs.declared.Memory.{Memory}
use Rattle.numbers.specs.Numbers.{done, wrong_length}
use Rattle.numbers.specs.Refusal.{refusal_number, number_given}
use Rattle.numbers.specs.declared.Refusal.{Refusal}
pub use Rattle.put_bytes.specs.Left.{Left, left, left_in}
use Rattle.savelog.specs.Log.{address_end, record_number}
use Rattle.savelog.specs.declared.Form.TheVariants.{Four}

-- An entry that changes the state alone: the number, and the image as it is then

pub record Changed : Type 0 where
  pub number : ℕ
  pub image : List ℕ

abbrev pub changed : ℕ → List ℕ → Changed
changed n i = record { number = n; image = i }

unfoldable pub encoded : List ℕ → Performed → Changed
encoded i p = cond (refused p.number) (changed p.number i) (changed p.number (image_of p.memory))

unfoldable pub state_entry : List ℕ → StateCall → Changed
state_entry i c =
    cond (eqb (load_call i).number done) (encoded i (state_step (load_call i).state c)) (changed (load_call i).number i)

-- An entry that asks: the number, and the value; the image is lent for reading

pub record Given : Type 0 where
  pub number : ℕ
  pub value : ℕ

abbrev pub given : ℕ → ℕ → Given
given n v = record { number = n; value = v }

-- what is asked, with this paper's number and value for each case of the answer: 0 where it is refused

abbrev pub given_of : Result ℕ Refusal → Given
given_of r = given (number_given r) (result_unwrap_or r 0)

abbrev pub flag_given_of : Result Bool Refusal → Given
flag_given_of r = given (number_given r) (flag_number (result_unwrap_or r false))

abbrev pub waiting_of : Result (Option Interrupt) Refusal → Given
waiting_of (Ok p) = given done (pending_number p)
waiting_of (Err e) = given (refusal_number e) 0

unfoldable pub ask_entry : List ℕ → StateCall → Given
ask_entry i c =
    cond (eqb (load_call i).number done)
    (given (state_step (load_call i).state c).number (state_step (load_call i).state c).value)
    (given (load_call i).number 0)

-- how many bytes of the log are used; the all-zero state of a refused image uses none
abbrev pub used_entry : List ℕ → Given
used_entry i = given (load_call i).number (load_call i).state.core.used

-- a call that reads what is lent; no log is
unfoldable pub read_entry : Fixed → List ℕ → List ℕ → List ℕ → List ℕ → Call → Given
read_entry x i v w s c =
    cond (eqb (load_call i).number done)
    (given (step x (world (load_call i).state v w s []) c).number (step x (world (load_call i).state v w s []) c).value)
    (given (load_call i).number 0)

-- An entry that writes what is lent: the number, the value, the image and the memories as they are then (crate put_bytes, specs/Left.antt)

unfoldable pub encoded_in : List ℕ → World → Outcome → Left
encoded_in i w o =
    cond (refused o.number) (left_in o.number 0 i w)
    (left_in o.number o.value (image_of o.after.state) o.after)

unfoldable pub world_entry : Fixed → List ℕ → List ℕ → List ℕ → List ℕ → List ℕ → Call → Left
world_entry x i v w s l c =
    cond (eqb (load_call i).number done)
    (encoded_in i (world (load_call i).state v w s l) (step x (world (load_call i).state v w s l) c))
    (left (load_call i).number 0 i v w s l)

-- A fresh bus: 4 for the image's length comes first; refused, the image stays as it is

pub record Fresh : Type 0 where
  pub number : ℕ
  pub image : List ℕ
  pub vram : List ℕ
  pub wram : List ℕ

abbrev pub fresh : ℕ → List ℕ → List ℕ → List ℕ → Fresh
fresh n i v w = record { number = n; image = i; vram = v; wram = w }

unfoldable pub fresh_entry : List ℕ → List ℕ → List ℕ → Begun → Fresh
fresh_entry i v w b =
    cond (eqb (length i) image_len)
    (cond (eqb b.number done) (fresh done (image_of b.state) b.vram b.wram) (fresh b.number i v w))
    (fresh wrong_length i v w)

-- A mapper's own calls, on the mapper of the image

unfoldable pub mapper_read_entry : List ℕ → List ℕ → List ℕ → ℕ → Given
mapper_read_entry i rom save k =
    cond (eqb (load_call i).number done)
    (given (read_byte (load_call i).state.core.cartridge (load_call i).state.core.mapper rom save k).number
    (read_byte (load_call i).state.core.cartridge (load_call i).state.core.mapper rom save k).value)
    (given (load_call i).number 0)

-- a mapper's answer as the record that the bus would log; 0 for "not stored"
abbrev pub answer_number : Option Stored → ℕ
answer_number (Some s) = record_number Four (s.at % address_end) s.value
answer_number None = 0

pub record Mapped : Type 0 where
  pub number : ℕ
  pub value : ℕ
  pub image : List ℕ

abbrev pub mapped : ℕ → ℕ → List ℕ → Mapped
mapped n v i = record { number = n; value = v; image = i }

unfoldable pub encoded_mapper : List ℕ → Memory → WriteByte → Mapped
encoded_mapper i m w =
    cond (eqb w.number done) (mapped done (answer_number w.answer) (image_of (with_mapper m w.mapper))) (mapped w.number 0 i)

unfoldable pub mapper_write_entry : List ℕ → ℕ → ℕ → Mapped
mapper_write_entry i k v =
    cond (eqb (load_call i).number done)
    (encoded_mapper i (load_call i).state (write_byte (load_call i).state.core.cartridge (load_call i).state.core.mapper k v))
    (mapped (load_call i).number 0 i)
