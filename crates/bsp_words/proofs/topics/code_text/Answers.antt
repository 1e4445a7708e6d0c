use Rattle.std.proofs.Common.{refl}
use Rattle.bsp_words.proofs.Decimals.{one, two, three, four, five, six, seven, eight, nine, ten, eleven, twelve, thirteen, fourteen}
use Rattle.bsp_words.proofs.topics.code_text.Goals as goal

pub returns-in-1 : goal.returns-in-1
returns-in-1 c = rw (c.in-1.is, one) refl

pub returns-in-2 : goal.returns-in-2
returns-in-2 c = rw (c.in-2.is, two) refl

pub returns-in-3 : goal.returns-in-3
returns-in-3 c = rw (c.in-3.is, three) refl

pub returns-in-4 : goal.returns-in-4
returns-in-4 c = rw (c.in-4.is, four) refl

pub returns-in-5 : goal.returns-in-5
returns-in-5 c = rw (c.in-5.is, five) refl

pub returns-in-6 : goal.returns-in-6
returns-in-6 c = rw (c.in-6.is, six) refl

pub returns-in-7 : goal.returns-in-7
returns-in-7 c = rw (c.in-7.is, seven) refl

pub returns-in-8 : goal.returns-in-8
returns-in-8 c = rw (c.in-8.is, eight) refl

pub returns-in-9 : goal.returns-in-9
returns-in-9 c = rw (c.in-9.is, nine) refl

pub returns-in-10 : goal.returns-in-10
returns-in-10 c = rw (c.in-10.is, ten) refl

pub returns-in-11 : goal.returns-in-11
returns-in-11 c = rw (c.in-11.is, eleven) refl

pub returns-in-12 : goal.returns-in-12
returns-in-12 c = rw (c.in-12.is, twelve) refl

pub returns-in-13 : goal.returns-in-13
returns-in-13 c = rw (c.in-13.is, thirteen) refl

pub returns-in-14 : goal.returns-in-14
returns-in-14 c = rw (c.in-14.is, fourteen) refl
