-- How far the numbers of hands go by their types alone, so that each of them can be kept in a word.
use Rattle.std.specs.Prelude.{◌^◌, ◌<◌, FitsSigned}
use Rattle.std.specs.Int.{w8, w16, w64}
use Rattle.ff_grain.specs.declared.bintime.Bintime.{Bintime}
use Rattle.ff_hands.specs.declared.estimates.Estimate.{Estimate}
use Rattle.ff_hands.specs.declared.hands.Hands.{Hands}

-- seconds in two's complement, and a fraction
pub record TimeFitsWords (t : Bintime) : Type 0 where
  pub sec : FitsSigned w64 t.sec
  pub frac : t.frac < 2 ^ 64

pub record EstimateFitsWords (e : Estimate) : Type 0 where
  pub update_time : TimeFitsWords e.update_time
  pub update_ffcount : e.update_ffcount < 2 ^ 64
  pub leapsec_next : e.leapsec_next < 2 ^ 64
  pub period : e.period < 2 ^ 64
  pub errb_abs : e.errb_abs < 2 ^ 32
  pub errb_rate : e.errb_rate < 2 ^ 32
  pub leapsec_total : FitsSigned w16 e.leapsec_total
  pub leapsec : FitsSigned w8 e.leapsec

-- each number of the hands fits its word, or its part of one. Any hands in memory have it, while a list
-- of hands in a definition may hold any numbers
pub record FitsWords (h : Hands) : Type 0 where
  pub count : h.count < 2 ^ 64
  pub time : TimeFitsWords h.time
  pub lerp : TimeFitsWords h.lerp
  pub period_lerp : h.period_lerp < 2 ^ 64
  pub boot : TimeFitsWords h.boot
  pub est : EstimateFitsWords h.est
