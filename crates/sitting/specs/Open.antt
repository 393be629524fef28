-- What opening does: its checks in their order, and what then stands.
use Rattle.std.specs.Prelude.{ℕ, List, length, Some, None, Ok, Err, Option, Result, ◌==◌, nat_le}
use Rattle.labels.specs.Order.{Meaning}
use Rattle.orders.specs.Makes.{order_named}
use Rattle.labels.specs.declared.cell.Cell.{Cell}
use Rattle.labels.specs.declared.refusal.Refusal.{Refusal}
use Rattle.labels.specs.declared.refusal.Refusal.TheVariants.{ImageTooShort, UnknownVersion, WrongState}
use Rattle.image.specs.Layout.{header_of, cells_of}
use Rattle.image.specs.Load.{check, answer, load_refusal}
use Rattle.machine.specs.Machine.{start}
use Rattle.sitting.specs.declared.sitting.State.TheVariants.{Running}
use Rattle.sitting.specs.Sitting.{Standing, is_blank}

abbrev pub blank_checked : Standing → Result (Unit {0}) Refusal
blank_checked s = answer (check (is_blank s.state) WrongState None) tt

-- Only a blank sitting is opened, with an image that can be loaded.
abbrev pub open_refusal : Meaning → Standing → List ℕ → ℕ → Option Refusal
open_refusal m s image cells = check (is_blank s.state) WrongState (load_refusal m image cells)

-- a sitting that was just opened: running, at the machine's start
abbrev pub just_opened : List ℕ → ℕ → ℕ → Standing
just_opened image cells outputs = record {
  state = Running;
  opening = record {
    header = header_of image;
    image_length = length image;
    cells_length = cells;
    outputs_length = outputs;
  };
  machine = start;
}

-- the answer of a call, and what sitting and cells then hold
pub record Opened : Type 0 where
  pub answered : Result (Unit {0}) Refusal
  pub sitting : Standing
  pub cells : List Cell

abbrev pub after_call : Result (Unit {0}) Refusal → Standing → List Cell → Opened
after_call r s cells = record { answered = r; sitting = s; cells = cells }

-- A refusal is answered and changes nothing; else the image's cells are copied and the sitting stands just opened.
abbrev pub opened_unless : Option Refusal → Standing → List ℕ → List Cell → ℕ → Opened
opened_unless (Some refusal) s image cells outputs = after_call (Err refusal) s cells
opened_unless None s image cells outputs = after_call (Ok tt) (just_opened image (length cells) outputs) (cells_of image)

abbrev pub opened : Meaning → Standing → List ℕ → List Cell → ℕ → Opened
opened m s image cells outputs = opened_unless (open_refusal m s image (length cells)) s image cells outputs

-- the checks that come before the order's
abbrev pub start_refusal : Standing → List ℕ → Option Refusal
start_refusal s image =
    check (is_blank s.state) WrongState
    (check (nat_le 8 (length image)) ImageTooShort
    (check ((header_of image).version == 1) UnknownVersion None))

abbrev pub found_unless : Option Refusal → Result Meaning Refusal → Result Meaning Refusal
found_unless (Some refusal) order = Err refusal
found_unless None order = order

-- The order is the one that the header names, once the checks before the order's have passed.
abbrev pub order_found : Standing → List ℕ → Result Meaning Refusal
order_found s image = found_unless (start_refusal s image) (order_named (header_of image).order)

-- opening in an order that was found; where none was, that is the refusal
abbrev pub refusal_in : Result Meaning Refusal → Standing → List ℕ → ℕ → Option Refusal
refusal_in (Ok m) s image cells = open_refusal m s image cells
refusal_in (Err refusal) s image cells = Some refusal

abbrev pub named_refusal : Standing → List ℕ → ℕ → Option Refusal
named_refusal s image cells = refusal_in (order_found s image) s image cells

abbrev pub opened_named : Standing → List ℕ → List Cell → ℕ → Opened
opened_named s image cells outputs = opened_unless (named_refusal s image (length cells)) s image cells outputs
