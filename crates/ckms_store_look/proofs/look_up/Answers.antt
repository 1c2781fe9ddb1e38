-- `ckms_store_look::look_up` meets its contract: both sides times 2·den fit 64 bits, and the walk compares them.
-- Assumes nothing.
use native.Mathlib.Omega.{arith}
use lib.ListN.{length-map}
use lib.Seq.{length-take-le}
use Rattle.fraction.proofs.Tests.{phi_facts}
use Rattle.entries.specs.Entry.{entry_of}
use Rattle.entries.proofs.Maps.{map_take}
use Rattle.ckms_store_look.proofs.Asks.{rank_part, inv_part, inv_is}
use Rattle.ckms_store_look.proofs.look_up.Goals as goal

pub overflow_mul-limit-3 : goal.overflow_mul-limit-3
overflow_mul-limit-3 c =
    let e = inv_part _ _ _ c.requires in rw (c.from-3.ensures, inv_is _ _ _ c.requires c.inv_at-inv.ensures) record { fits = omega arith }

pub overflow_add-limit : goal.overflow_add-limit
overflow_add-limit c =
    let e = inv_part _ _ _ c.requires in
    let f = rank_part _ _ _ c.requires in
    rw (c.from.ensures, c.from-2.ensures, c.from-3.ensures, inv_is _ _ _ c.requires c.inv_at-inv.ensures) record { fits = omega arith }

pub walk-requires : goal.walk-requires
walk-requires c =
    let l = length-take-le c.args.store.held c.args.rows.now (omega (arith, c.requires.fits, length-map c.args.rows.now entry_of)) in
    let d = phi_facts c.args.q c.requires.phi in (
      omega (arith, c.requires.some),
      omega (arith, c.requires.fits, c.requires.few),
      rw (map_take entry_of c.args.store.held c.args.rows.now) (omega (arith, c.requires.summed, c.requires.count)),
      omega (arith, c.from-4.ensures),
    )

pub returns : goal.returns
returns c =
    rw (← map_take entry_of c.args.store.held c.args.rows.now)
    (rw (c.from-4.ensures, c.from-3.ensures, c.from-2.ensures, c.from.ensures, inv_is _ _ _ c.requires c.inv_at-inv.ensures) at c.walk.ensures)
