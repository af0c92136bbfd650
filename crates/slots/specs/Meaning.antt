-- The laws of a bank hold of slot resources.
use Rattle.std.specs.Prelude.{ℕ, ◌<◌, refl}
use Rattle.std.proofs.Common.{◌-◌, arith, div-le_self}
use Rattle.std.specs.List.{AllByRecursion}
use Rattle.std.proofs.ByRecursion.{All-from_get_or}
use Rattle.bank.specs.Meaning.{Small, Sound}
use Rattle.bank.specs.declared.size.TheConstants.{PARTIES}
use Rattle.slots.specs.Slots.{holders_of, parties_of, told_of, active_of}
use Rattle.slots.specs.declared.slots.Slots.{Slots}
use Rattle.slots.specs.Requests.{limit_is, requests_sound}

pub is_small : (s : Slots) → Small (told_of s)
is_small s =
    record {
      resources = s.sized.0;
      some = s.seated.0;
      seats = s.seated.1;
      limits = λ r m l e. omega (arith, limit_is s.seats (holders_of s r) s.seated.0 (s.sized.1 r l), div-le_self (s.seats - 1) (holders_of s r));
    }

pub is_sound : (s : Slots) (r : ℕ) → r < s.count → Sound (told_of s) r (active_of s r)
is_sound s r l =
    let kept = s.kept r (omega arith) in
    let small : AllByRecursion (λ p. p < PARTIES) (parties_of s r) = All-from_get_or (λ p. p < PARTIES) (parties_of s r) 0 kept.1 in
    requests_sound (told_of s) r s.seats (holders_of s r) (parties_of s r) refl refl (s.sized.1 r l) small kept.0
