mod Coded
mod Headed
mod Parted
mod Fitting
mod Sheeted
