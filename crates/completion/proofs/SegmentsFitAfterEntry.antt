-- A segment fits so often that its firings still start after the entry.
use Rattle.std.proofs.Common.{◌≡◌, ℕ, ◌+◌, ◌-◌, ◌*◌, ◌/◌, ◌%◌, ◌≤◌, ◌<◌, sym, ap, ◌∙◌, arith, div-add-mod'}
use Rattle.completion.specs.declared.timetable.Start.{Start}
use Rattle.completion.specs.declared.timetable.Timetable.{Timetable}
use Rattle.completion.specs.inside.Timetables.{before_of, pass_of}
use Rattle.completion.specs.inside.Walks.{FitsTimes}

pub fits-segments : (times : Timetable) (earlier later : Start) (before pass : ℕ) → before ≡ before_of times earlier.actor → pass ≡ pass_of times earlier.actor → later.actor ≡ earlier.actor →
    earlier.number < later.number → before ≤ earlier.number → (later.number - earlier.number) % pass ≡ 0 → FitsTimes times earlier later ((earlier.number - before) / (later.number - earlier.number))
fits-segments times earlier later before pass at_before at_pass actor order from whole =
    let apart : ℕ = later.number - earlier.number in
    let room : ℕ = earlier.number - before in
    let split : apart / pass * pass + apart % pass ≡ apart = div-add-mod' apart pass in
    let fit : room / apart * apart + room % apart ≡ room = div-add-mod' room apart in
    let passes : apart / pass * pass_of times earlier.actor ≡ apart = ap (λ (x : ℕ). apart / pass * x) (sym at_pass) ∙ omega arith in
    let segments : room / apart * (apart / pass * pass_of times earlier.actor) ≡ room / apart * apart = ap (λ (x : ℕ). room / apart * x) passes in
    record { actor = actor; passes = apart / pass; apart = omega arith; fits = omega arith }
