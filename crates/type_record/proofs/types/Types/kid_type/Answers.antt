-- `type_record::types::Types::kid_type` meets its contract: child i is part i from the first on. Assumes nothing.
use mathlib.Core.Path.{sym, ◌∙◌, ap₂}
use Prim.Native.Nat.{ℕ, ◌+◌, ◌<◌}
use native.Mathlib.Omega.{arith}
use Rattle.model.specs.Types.{count, part, owner, first}
use Rattle.type_record.proofs.Inside.{ok_counted, owner_inside, part_inside, kids_length, kids_at}
use Rattle.type_record.proofs.types.Types.kid_type.Goals as goal

-- the part is one of the owner's
part_there : (c : goal.After-first_of-j) → let a = c.args in
    first a.self.now.words.now a.t + a.i < count a.self.now.words.now (owner a.self.now.words.now a.t a.v)
part_there c =
    let a = c.args in
    omega (arith, kids_length a.self.now.words.now a.t a.v)

pub owner_of-u-requires : goal.owner_of-u-requires
owner_of-u-requires c =
    let p = c.requires in record { t_bound = p.t_bound; variant_of = p.variant_of }

pub first_of-j-requires : goal.first_of-j-requires
first_of-j-requires c =
    let p = c.requires in record { t_bound = p.t_bound }

pub overflow_add-j : goal.overflow_add-j
overflow_add-j c =
    let p = c.requires in
    let Γ = c.args.self.now.words.now in
    omega (arith, part_inside (ok_counted Γ c.args.self.now.ready.typed) (owner Γ c.args.t c.args.v) _ (owner_inside Γ c.args.self.now.ready.typed c.args.t c.args.v p.t_bound p.variant_of) (part_there c))

pub part_at-requires : goal.part_at-requires
part_at-requires c =
    let p = c.requires in
    rw (c.owner_of-u.ensures, c.first_of-j.ensures)
    record { t_bound = owner_inside _ c.args.self.now.ready.typed _ _ p.t_bound p.variant_of; j_bound = part_there c }

pub returns : goal.returns
returns c =
    let a = c.args in
    c.part_at.ensures
    ∙ ap₂ (λ (u j : ℕ). part a.self.now.words.now u (j + a.i)) c.owner_of-u.ensures c.first_of-j.ensures
    ∙ sym (kids_at a.self.now.words.now a.t a.v a.i c.requires.i_in_bounds)
